use Rattle.std.proofs.Common.{◌∙◌, ◌∷◌, [], ◌++◌, List, take, refl, sym, ap, arith}
use Rattle.m5_region.specs.declared.value.Value.{Value}
use Rattle.m5_region.specs.Region.{Contents, Object, ArrayOf, objects_with_field}
use Rattle.m5_machine.proofs.Filled.{fields_at, none_set, all_set, last_is, front_length, field_there, refers_front, slot_refers, value_is, value_is_null, same_fields, next_fields, set_last}
use Rattle.m5_machine.proofs.arrays.fill_fields.Goals as goal
use Rattle.m5_machine.proofs.arrays.fill_fields.Goals.{in-Some, in-None}

pub loop-place-init : goal.loop-place-init
loop-place-init c = record {
  objects = last_is _ _ _ c.requires.newest c.requires.nulls ∙ ap (λ (vs : List Value). take c.args.at.0 c.args.region.now.objects ++ ArrayOf vs ∷ []) (sym (none_set c.args.slots.now c.args.operands.now));
  left = refl;
}

pub fill-requires-clause-there : goal.fill-requires-clause-there
fill-requires-clause-there c = field_there _ _ _ _ _ _ c.loop-place.invariant.objects (sym (front_length _ _ c.requires.newest)) (omega arith)

pub fill-requires-clause-refers : goal.fill-requires-clause-refers
fill-requires-clause-refers c = refers_front _ _ _ _ _ c.loop-place.invariant.objects (sym (front_length _ _ c.requires.newest)) (slot_refers _ _ _ _ c.requires.refer c.in-Some.ensures)

pub loop-place-preserved : goal.loop-place-preserved
loop-place-preserved c =
    let front = take c.args.at.0 c.args.region.now.objects in
    let slots = c.args.slots.now in
    let xs = c.args.operands.now in
    let at = sym (front_length _ _ c.requires.newest) in
    elim c.match-get.branch [
      | in-Some w ↦ record {
        objects =
            ap (λ (r : Contents). r.objects) w.region-is ∙ w.fill.ensures.objects
            ∙ ap (λ (os : List Object). objects_with_field os c.args.at.0 c.loop-place.place w.in-Some.value) c.loop-place.invariant.objects
            ∙ set_last front (fields_at slots xs c.loop-place.place) c.args.at.0 c.loop-place.place w.in-Some.value at
            ∙ ap (λ (vs : List Value). front ++ ArrayOf vs ∷ []) (next_fields slots xs c.loop-place.place w.in-Some.value (omega arith) (value_is slots _ _ w.in-Some.ensures));
        left = ap (λ (r : Contents). r.left) w.region-is ∙ w.fill.ensures.left ∙ c.loop-place.invariant.left;
      }
      | in-None w ↦ record {
        objects =
            ap (λ (r : Contents). r.objects) w.region-is ∙ c.loop-place.invariant.objects
            ∙ ap (λ (vs : List Value). front ++ ArrayOf vs ∷ []) (same_fields slots xs c.loop-place.place (omega arith) (value_is_null slots _ w.in-None.ensures));
        left = ap (λ (r : Contents). r.left) w.region-is ∙ c.loop-place.invariant.left;
      }
    ]

pub returns-clause-objects : goal.returns-clause-objects
returns-clause-objects c =
    c.loop-place.invariant.objects ∙ ap (λ (vs : List Value). take c.args.at.0 c.args.region.now.objects ++ ArrayOf vs ∷ []) (all_set c.args.slots.now c.args.operands.now c.loop-place.place (omega arith))
