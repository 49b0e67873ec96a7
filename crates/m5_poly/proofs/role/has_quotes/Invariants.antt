use Rattle.std.proofs.Common.{◌≡◌, length}
use Rattle.m5_poly.specs.Roles.{has_quotes}
use Rattle.m5_poly.proofs.role.has_quotes.Given as goal

-- the answer is that of the rest
abbrev pub invariant-loop-rest : goal.invariant-loop-rest
invariant-loop-rest l = has_quotes l.rest ≡ has_quotes l.name

abbrev pub decreases-loop-rest : goal.decreases-loop-rest
decreases-loop-rest l = length l.rest
