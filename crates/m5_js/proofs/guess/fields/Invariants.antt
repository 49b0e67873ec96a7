use Rattle.std.proofs.Common.{◌≡◌, ◌-◌, length, All}
use Rattle.m5_machine.specs.Numbers.{IsSlot}
use Rattle.m5_js.specs.code.Guess.{fields_in, behind}
use Rattle.m5_js.proofs.guess.fields.Given as goal

abbrev pub invariant-loop-place : goal.invariant-loop-place
invariant-loop-place l = record {
  guess : fields_in (length l.bytes) l.bytes ≡ behind l.slots.items (fields_in (length l.bytes - l.place) l.front.rest.now);
  slots : All IsSlot l.slots.items;
}
