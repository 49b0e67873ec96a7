use Rattle.std.proofs.Common.{◌≡◌, ◌++◌, take}
use Rattle.m5_bytecode.specs.Listing.{operands}
use Rattle.m5_bytecode.proofs.words.put_slots.Given as goal

abbrev pub invariant-loop-slot : goal.invariant-loop-slot
invariant-loop-slot l = l.out.items ≡ l.fn.out.items ++ operands (take l.slot-index l.slots)
