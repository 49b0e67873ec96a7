use Rattle.std.proofs.Common.{◌≡◌, ◌≤◌, ◌-◌, length, drop}
use Rattle.m5_poly.specs.Expansion.{written}
use Rattle.m5_poly.specs.code.Views.{scope_of}
use Rattle.m5_poly.specs.code.Writing.{with_tokens, writing_of}
use Rattle.m5_poly.proofs.write.write.Given as goal

-- what is left to write completes the answer
abbrev pub invariant-tokens : goal.invariant-tokens
invariant-tokens l =
    (with_tokens l.out (written (writing_of l.source (scope_of l.scope)) 0 (drop l.at l.tokens)) ≡ with_tokens l.initial.out (written (writing_of l.source (scope_of l.scope)) 0 l.tokens))
    × (l.at ≤ length l.tokens)

abbrev pub decreases-tokens : goal.decreases-tokens
decreases-tokens l = length l.tokens - l.at
