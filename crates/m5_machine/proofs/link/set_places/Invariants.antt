use Rattle.std.proofs.Common.{◌≡◌, map, length}
use Rattle.m5_machine.specs.Linked.{erased}
use Rattle.m5_machine.proofs.Placing.{PlacesBelow}
use Rattle.m5_machine.proofs.link.set_places.Given as goal

abbrev pub invariant-loop-at : goal.invariant-loop-at
invariant-loop-at l = record {
  same : map erased l.steps.items ≡ map erased l.fn.steps.items;
  long : length l.steps.items ≡ length l.fn.steps.items;
  places : PlacesBelow l.fn.steps.items l.steps.items l.at;
}
