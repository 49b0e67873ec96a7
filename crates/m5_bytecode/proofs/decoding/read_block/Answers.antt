use Rattle.std.proofs.Common.{◌≡◌, ◌+◌, ap, arith, length, length-append}
use Rattle.std.proofs.lemmas.Result.{err_from_is_err_and}
use Rattle.m5_bytecode.specs.Spelling.{body_bytes}
use Rattle.m5_bytecode.proofs.Labels.{no_label, low_label, no_length, no_block_body, opened, long_as_told, block_read}
use Rattle.m5_bytecode.proofs.decoding.read_block.Goals as goal

pub returns-in_err-label-clause-err : goal.returns-in_err-label-clause-err
returns-in_err-label-clause-err c =
    let p = err_from_is_err_and c.from_residual.result c.from_residual.ensures.1 in
    rw (p.1, p.2) (no_label _ _ _ c.in_err-label.ensures.err)

pub returns-then-label-len-clause-err : goal.returns-then-label-len-clause-err
returns-then-label-len-clause-err c = λ count h. low_label _ count _ _ _ (omega (arith, c.if-label-len.true, c.len.ensures)) c.in_ok-label.ensures.ok h

pub returns-in_err-length-clause-err : goal.returns-in_err-length-clause-err
returns-in_err-length-clause-err c =
    let p = err_from_is_err_and c.from_residual-in_err-length.result c.from_residual-in_err-length.ensures.1 in
    rw (p.1, p.2) (no_length _ _ _ _ _ c.in_ok-label.ensures.ok c.in_err-length.ensures.err)

pub returns-in_err-read_body-clause-err : goal.returns-in_err-read_body-clause-err
returns-in_err-read_body-clause-err c =
    let p = err_from_is_err_and c.from_residual-in_err-read_body.result c.from_residual-in_err-read_body.ensures.1 in
    rw (p.1, p.2) (no_block_body _ _ _ _ _ _ _ c.in_ok-label.ensures.ok c.in_ok-length.ensures.ok c.in_err-read_body.ensures.err)

pub returns-then-before-input-clause-err : goal.returns-then-before-input-clause-err
returns-then-before-input-clause-err c = λ count h.
    let o = opened _ count _ _ _ _ _ h c.in_ok-label.ensures.ok c.in_ok-length.ensures.ok in
    let l = long_as_told _ _ _ _ _ _ _ _ o c.in_ok-read_body.ensures.ok in
    c.if-before-input.true (omega (arith, l))

pub returns-clause-ok : goal.returns-clause-ok
returns-clause-ok c =
    let m = c.in_ok-read_body.ensures.ok in
    let long : length c.four.new.self.rest.now ≡ c.in_ok-length.length + length c.read_body.new.input.rest.now =
    omega (arith, c.if-before-input.false, ap length m.is, length-append (body_bytes m.body) c.read_body.new.input.rest.now) in
    block_read _ _ _ _ _ _ _ _ _ _ _ _ c.in_ok-label.ensures.spelled c.in_ok-length.ensures.spelled long (omega arith) (omega (arith, c.in_ok-skip_labels.ensures.count)) (omega (arith, c.len-2.ensures)) c.in_ok-add_start.ensures c.in_ok-skip_labels.ensures.laid m
