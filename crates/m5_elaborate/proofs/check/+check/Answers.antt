use Rattle.std.proofs.Common.{◌≡◌, ◌∙◌, rules, arith, ap, sym, subst}
use Rattle.m5_terms.specs.Table.{entries}
use Rattle.m5_terms.specs.declared.form.BinaryForm.TheVariants.{Pair}
use Rattle.m5_raw.specs.Resolved.{binary, place_of}
use Rattle.m5_terms.specs.Outcome.{found}
use Rattle.m5_elaborate.specs.Outcome.{IsFault}
use Rattle.m5_elaborate.specs.Names.{context}
use Rattle.m5_elaborate.specs.Checked.{checked, signatures}
use Rattle.m5_elaborate.proofs.PairSteps.{nests_next, nests_part_fault, nests_fault}
use Rattle.m5_elaborate.proofs.Tables.{shallow_same, shallow_inside}
use Rattle.m5_elaborate.proofs.check.+check.Goals as goal

pub within-check-requires : goal.within-check-requires
within-check-requires t c = (search rules, (shallow_inside c.args.depth c.args.binding _ _ c.in_ok-outer.ensures.names c.requires.shallow, omega arith))

pub check_binary-within-requires : goal.check_binary-within-requires
check_binary-within-requires t c = (search rules, (shallow_same c.args.depth _ _ c.in_ok-first.ensures.names c.requires.shallow, omega arith))

pub check_ternary-within-requires : goal.check_ternary-within-requires
check_ternary-within-requires t c = (search rules, (shallow_same c.args.depth _ _ c.in_ok-first.ensures.names c.requires.shallow, omega arith))

pub check_ternary-within-requires-2 : goal.check_ternary-within-requires-2
check_ternary-within-requires-2 t c =
    (search rules, (shallow_same c.args.depth _ _ c.in_ok-second.ensures.names (shallow_same c.args.depth _ _ c.in_ok-first.ensures.names c.requires.shallow), omega arith))

pub check_pairs-returns-in_err-ty-2-clause-ends : goal.check_pairs-returns-in_err-ty-2-clause-ends
check_pairs-returns-in_err-ty-2-clause-ends t c =
    let F = signatures c.args.known.now in
    let G = context c.args.depth (entries c.args.names.now) in
    let arm = c.in-Binary-Pair-default-default in
    let q : binary (place_of c.loop-part.rest.now) Pair arm.part.now arm.later.now ≡ c.loop-part.rest.now =
    ap (λ g. binary (place_of c.loop-part.rest.now) g arm.part.now arm.later.now) (sym arm.field-0-is) ∙ arm.ensures.value in
    let f : IsFault (checked F G c.args.world arm.part.now) c.in_err-ty-2.field-0.0 =
    subst (λ s. IsFault (checked F (context c.args.depth s) c.args.world arm.part.now) c.in_err-ty-2.field-0.0) c.loop-part.invariant.names c.in_err-ty-2.ensures.ends in
    let k = nests_part_fault F G c.args.world (place_of c.loop-part.rest.now) arm.part.now arm.later.now c.loop-part.rest.now c.in_err-ty-2.field-0.0
    (checked F G c.args.world (binary c.args.place Pair c.args.first.now c.args.second.now)) c.loop-part.waiting.items c.loop-part.invariant.whole q f in
    search rules

pub check_pairs-loop-part-preserved : goal.check_pairs-loop-part-preserved
check_pairs-loop-part-preserved t c =
    let F = signatures c.args.known.now in
    let G = context c.args.depth (entries c.args.names.now) in
    let arm = c.in-Binary-Pair-default-default in
    let q : binary (place_of c.loop-part.rest.now) Pair arm.part.now arm.later.now ≡ c.loop-part.rest.now =
    ap (λ g. binary (place_of c.loop-part.rest.now) g arm.part.now arm.later.now) (sym arm.field-0-is) ∙ arm.ensures.value in
    let e : checked F G c.args.world arm.part.now ≡ found c.in_ok-ty-2.ty =
    subst (λ s. checked F (context c.args.depth s) c.args.world arm.part.now ≡ found c.in_ok-ty-2.ty) c.loop-part.invariant.names c.in_ok-ty-2.ensures.ends in
    record {
      names = c.in_ok-ty-2.ensures.names ∙ c.loop-part.invariant.names;
      inner = omega (arith, arm.ensures.smaller, c.loop-part.invariant.inner);
      whole = nests_next F G c.args.world (place_of c.loop-part.rest.now) arm.part.now arm.later.now c.loop-part.rest.now c.in_ok-ty-2.ty
          (checked F G c.args.world (binary c.args.place Pair c.args.first.now c.args.second.now)) c.loop-part.waiting.items _ _ c.loop-part.invariant.whole q e
          c.in_ok-wait-2.ensures c.place_of_node.ensures;
    }

pub check_pairs-returns-in_err-last-clause-ends : goal.check_pairs-returns-in_err-last-clause-ends
check_pairs-returns-in_err-last-clause-ends t c =
    let F = signatures c.args.known.now in
    let G = context c.args.depth (entries c.args.names.now) in
    let f : IsFault (checked F G c.args.world c.loop-part.rest.now) c.in_err-last.field-0.0 =
    subst (λ s. IsFault (checked F (context c.args.depth s) c.args.world c.loop-part.rest.now) c.in_err-last.field-0.0) c.loop-part.invariant.names c.in_err-last.ensures.ends in
    let k = nests_fault (checked F G c.args.world (binary c.args.place Pair c.args.first.now c.args.second.now)) (checked F G c.args.world c.loop-part.rest.now)
    c.in_err-last.field-0.0 c.loop-part.waiting.items c.loop-part.invariant.whole f in
    search rules
