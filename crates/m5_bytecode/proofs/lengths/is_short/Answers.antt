use Rattle.std.proofs.Math.ListN.{drop_of_length-le}
use Rattle.std.specs.List.{flat_map}
use Rattle.std.proofs.lemmas.Bool.{le-ltb, lt-ltb}
use Rattle.m5_machine.specs.Labelled.{blocks_from}
use Rattle.m5_bytecode.specs.Spelling.{block_bytes, code_bytes}
use Rattle.std.proofs.Common.{List, ℕ, length, arith, refl, ◌<◌, ◌≤◌, ap, sym}
use Rattle.m5_machine.proofs.Walking.{block_begins}
use Rattle.m5_bytecode.proofs.Sizes.{body_length, code_length, walk_length}
use Rattle.m5_bytecode.proofs.lengths.is_short.Goals as goal

pub body_length-length-requires-clause-body : goal.body_length-length-requires-clause-body
body_length-length-requires-clause-body c = (block_begins _ c.starts-starts.result.now c.loop-label.label _ c.requires.flat c.starts-starts.ensures (omega arith) refl c.if-start.true).body

pub overflow_add-length : goal.overflow_add-length
overflow_add-length c =
    let there = (block_begins _ c.starts-starts.result.now c.loop-label.label _ c.requires.flat c.starts-starts.ensures (omega arith) refl c.if-start.true).body in
    omega (arith, body_length c.args.code.now _ there, c.body_length-length.ensures, c.requires.small)

pub returns-then-length-total : goal.returns-then-length-total
returns-then-length-total c =
    let w = walk_length c.args.code.now c.starts-starts.result.now c.loop-label.label _ (omega arith) refl c.if-start.true in
    let l = code_length c.args.code.now in
    let long : 4294967296 ≤ length (code_bytes c.args.code.now) = omega (arith, w, l, c.loop-label.invariant.walked, c.body_length-length.ensures, c.if-length-total.true) in
    sym (le-ltb _ _ long)

pub returns : goal.returns
returns c =
    let l = code_length c.args.code.now in
    let left = ap (λ (xs : List ℕ). length (flat_map block_bytes (blocks_from c.args.code.now c.loop-label.label xs))) (drop_of_length-le c.starts-starts.result.now c.loop-label-test.false) in
    let short : length (code_bytes c.args.code.now) < 4294967296 = omega (arith, l, left, c.loop-label.invariant.walked, c.loop-label.invariant.small) in
    sym (lt-ltb _ _ short)
