use Rattle.std.proofs.Common.{◌≡◌, take}
use Rattle.m5_poly.proofs.item.items_of.Given as goal

abbrev pub invariant-loop-index : goal.invariant-loop-index
invariant-loop-index l = l.items.items ≡ take l.index l.tokens.tokens
