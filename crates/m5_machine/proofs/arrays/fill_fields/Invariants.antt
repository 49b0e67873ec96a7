use Rattle.std.proofs.Common.{◌≡◌, ◌∷◌, [], ◌++◌, take}
use Rattle.m5_region.specs.Region.{ArrayOf}
use Rattle.m5_machine.proofs.Filled.{fields_at}
use Rattle.m5_machine.proofs.arrays.fill_fields.Given as goal

abbrev pub invariant-loop-place : goal.invariant-loop-place
invariant-loop-place l = record {
  objects : l.region.objects ≡ take l.at.0 l.fn.region.objects ++ ArrayOf (fields_at l.slots l.operands l.place) ∷ [];
  left : l.region.left ≡ l.fn.region.left;
}
