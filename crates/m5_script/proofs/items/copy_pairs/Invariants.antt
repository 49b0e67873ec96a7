use Rattle.std.proofs.Common.{◌≡◌, take}
use Rattle.m5_script.proofs.items.copy_pairs.Given as goal

abbrev pub invariant-loop-pair : goal.invariant-loop-pair
invariant-loop-pair l = l.copies ≡ take l.pair-index l.pair-items
