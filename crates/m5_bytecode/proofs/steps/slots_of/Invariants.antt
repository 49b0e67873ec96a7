use Rattle.std.proofs.Common.{◌≡◌, ◌*◌, take, All}
use Rattle.std.specs.Vec.{vec_len}
use Rattle.std.specs.List.{flat_map}
use Rattle.m5_machine.specs.Numbers.{IsSlot}
use Rattle.m5_bytecode.specs.Spelling.{two}
use Rattle.m5_bytecode.proofs.steps.slots_of.Given as goal

abbrev pub invariant-loop-place : goal.invariant-loop-place
invariant-loop-place l = record {
  spelled : flat_map two l.slots.items ≡ take (2 * l.place) l.bytes;
  slots : All IsSlot l.slots.items;
  count : vec_len l.slots ≡ l.place;
}
