use Rattle.std.proofs.Common.{ℕ, Vec, Global, ◌≡◌, ◌+◌, ◌-◌, ◌<◌, ◌∙◌, ap, sym, subst, arith, length, map, slice_index_or}
use Rattle.m5_machine.specs.declared.step.Step.{Step}
use Rattle.m5_machine.specs.declared.link.Shape.{Shape}
use Rattle.m5_machine.specs.Linked.{erased}
use Rattle.m5_machine.proofs.Shapes.{at_index, index_there}
use Rattle.m5_machine.proofs.Placing.{PlacesBelow, same_after, length_after, next_place, last_place}
use Rattle.m5_machine.proofs.link.set_places.Goals as goal
use Rattle.m5_machine.proofs.link.set_places.Goals.{then-at-count, else-at-count}

pub loop-at-preserved : goal.loop-at-preserved
loop-at-preserved c =
    let old = c.args.steps.now.items in
    let at = c.loop-at.at in
    let shapes = c.args.shapes.now in
    let none : Shape = record { after = 0; fills = 0; depth = 0 } in
    elim c.if-at-count.branch [
      | then-at-count w ↦
          let there : at < length c.loop-at.steps.items = omega arith in
          let count : c.len-count.result ≡ length old = omega arith in
          let m = length old - 2 - at in
          let known : m < length shapes = omega arith in
          let back : length old - 1 - m ≡ at + 1 = omega arith in
          record {
            same = ap (λ (v : Vec Step Global). map erased v.items) w.steps-is ∙ same_after _ _ _ _ there w.set_place.ensures ∙ c.loop-at.invariant.same;
            long = ap (λ (v : Vec Step Global). length v.items) w.steps-is ∙ length_after _ _ _ _ there w.set_place.ensures ∙ c.loop-at.invariant.long;
            places = subst (λ (v : Vec Step Global). PlacesBelow old v.items (at + 1)) (sym w.steps-is) (next_place old _ _ at _ (slice_index_or shapes m none) c.loop-at.invariant.places there w.set_place.ensures (at_index old shapes m (at + 1) _ c.requires.shapes (index_there shapes m none known) back) (ap (λ (n : ℕ). (slice_index_or shapes (n - 2 - at) none).after) count));
          }
      | else-at-count w ↦ record {
        same = ap (λ (v : Vec Step Global). map erased v.items) w.steps-is ∙ c.loop-at.invariant.same;
        long = ap (λ (v : Vec Step Global). length v.items) w.steps-is ∙ c.loop-at.invariant.long;
        places = subst (λ (v : Vec Step Global). PlacesBelow old v.items (at + 1)) (sym w.steps-is) (last_place old _ at c.loop-at.invariant.places (omega arith));
      }
    ]
