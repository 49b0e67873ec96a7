use Rattle.std.proofs.Common.{◌≡◌, take}
use Rattle.m5_script.proofs.items.copy_raws.Given as goal

abbrev pub invariant-loop-item : goal.invariant-loop-item
invariant-loop-item l = l.copies ≡ take l.item-index l.item-items
