use Rattle.std.proofs.Common.{◌≡◌, ◌++◌, take}
use Rattle.std.specs.List.{flat_map}
use Rattle.m5_js.specs.Spelling.{after_comma}
use Rattle.m5_js.proofs.words.put_after_commas.Given as goal

abbrev pub invariant-loop-slot : goal.invariant-loop-slot
invariant-loop-slot l = l.out.items ≡ l.fn.out.items ++ flat_map after_comma (take l.slot-index l.slots)
