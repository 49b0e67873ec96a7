use Rattle.std.proofs.Common.{◌≡◌, take}
use Rattle.m5_poly.specs.code.Writing.{with_tokens, codes_at}
use Rattle.m5_poly.proofs.write.put_codes.Given as goal

abbrev pub invariant-loop-code : goal.invariant-loop-code
invariant-loop-code l = l.out ≡ with_tokens l.initial.out (codes_at l.place (take l.code-index l.codes))
