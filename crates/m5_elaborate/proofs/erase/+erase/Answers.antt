use Rattle.std.proofs.Common.{◌≡◌, ◌∙◌, arith, ap, sym}
use Rattle.m5_terms.specs.Expression as term
use Rattle.m5_terms.specs.declared.form.BinaryForm.TheVariants.{Pair}
use Rattle.m5_raw.specs.Resolved.{binary, place_of}
use Rattle.m5_elaborate.specs.Erased.{erased}
use Rattle.m5_elaborate.proofs.PairSteps.{terms_next}
use Rattle.m5_elaborate.proofs.erase.+erase.Goals as goal

pub erase_pairs-loop-part-preserved : goal.erase_pairs-loop-part-preserved
erase_pairs-loop-part-preserved t c =
    let arm = c.in-Binary-Pair-default-default in
    let q : binary (place_of c.loop-part.rest.now) Pair arm.part.now arm.later.now ≡ c.loop-part.rest.now =
    ap (λ g. binary (place_of c.loop-part.rest.now) g arm.part.now arm.later.now) (sym arm.field-0-is) ∙ arm.ensures.value in
    record {
      inner = omega (arith, arm.ensures.smaller, c.loop-part.invariant.inner);
      whole = terms_next (term.binary Pair (erased c.args.first.now) (erased c.args.second.now)) c.in_ok-kept-2.field-0 c.loop-part.parts.items _
          (place_of c.loop-part.rest.now) arm.part.now arm.later.now c.loop-part.rest.now c.loop-part.invariant.whole q c.in_ok-kept-2.ensures c.in_ok-push-2.ensures.items;
    }
