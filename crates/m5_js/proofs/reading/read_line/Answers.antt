use Rattle.std.proofs.Common.{arith}
use Rattle.std.proofs.lemmas.Result.{err_from_is_err_and, on_ok_weaker, MatchResult-weaker}
use Rattle.m5_js.proofs.Lines.{low_label, no_opening, no_line_body, no_closing, line_read}
use Rattle.m5_js.proofs.reading.read_line.Goals as goal

pub returns-then-label-len-clause-err : goal.returns-then-label-len-clause-err
returns-then-label-len-clause-err c = λ h. low_label _ _ _ _ (omega (arith, c.if-label-len.true, c.len.ensures)) c.in_ok-expect.ensures.ok c.in_ok-label.ensures.guess h

pub returns-in_err-expect-2-clause-err : goal.returns-in_err-expect-2-clause-err
returns-in_err-expect-2-clause-err c =
    let p = err_from_is_err_and c.from_residual-in_err-expect-2.result c.from_residual-in_err-expect-2.ensures.1 in
    rw (p.1, p.2) (no_opening _ _ _ _ _ _ c.in_ok-expect.ensures.ok c.in_ok-label.ensures.guess c.in_ok-label.ensures.ok c.in_err-expect-2.ensures.err)

pub returns-in_err-read_body-clause-err : goal.returns-in_err-read_body-clause-err
returns-in_err-read_body-clause-err c =
    let p = err_from_is_err_and c.from_residual-in_err-read_body.result c.from_residual-in_err-read_body.ensures.1 in
    rw (p.1, p.2) (no_line_body _ _ _ _ _ _ _ c.in_ok-expect.ensures.ok c.in_ok-label.ensures.guess c.in_ok-label.ensures.ok c.in_ok-expect-2.ensures.ok c.in_err-read_body.ensures.err)

pub returns-clause-ok : goal.returns-clause-ok
returns-clause-ok c =
    on_ok_weaker c.expect-3.result (λ n. line_read _ _ _ _ _ _ _ _ _ _ _ _ _ c.in_ok-expect.ensures.ok c.in_ok-label.ensures.ok c.in_ok-expect-2.ensures.ok n (omega arith) (omega (arith, c.in_ok-skip_labels.ensures.count)) (omega (arith, c.len-2.ensures)) c.in_ok-add_start.ensures c.in_ok-skip_labels.ensures.laid c.in_ok-read_body.ensures.ok) c.expect-3.ensures.ok

pub returns-clause-err : goal.returns-clause-err
returns-clause-err c =
    MatchResult-weaker c.expect-3.result c.expect-3.ensures.err (λ x u. u) (λ e n. no_closing e _ _ _ _ _ _ _ _ _ c.in_ok-expect.ensures.ok c.in_ok-label.ensures.guess c.in_ok-label.ensures.ok c.in_ok-expect-2.ensures.ok c.in_ok-read_body.ensures.ok n)
