use Rattle.std.proofs.Common.{◌≡◌, take}
use Rattle.m5_poly.specs.code.Writing.{with_tokens}
use Rattle.m5_poly.proofs.write.put_all.Given as goal

abbrev pub invariant-loop-item : goal.invariant-loop-item
invariant-loop-item l = l.out ≡ with_tokens l.initial.out (take l.item-index l.tokens)
