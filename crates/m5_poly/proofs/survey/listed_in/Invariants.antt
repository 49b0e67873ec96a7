use Rattle.std.proofs.Common.{◌≡◌, ◌≤◌, ◌-◌, [], length, drop}
use Rattle.m5_poly.specs.Survey.{listed}
use Rattle.m5_poly.proofs.survey.listed_in.Given as goal

-- the answer is that of what is left, behind the variables so far
abbrev pub invariant-variables : goal.invariant-variables
invariant-variables l = (listed l.variables (drop l.at l.tokens) ≡ listed [] l.tokens) × (l.at ≤ length l.tokens)

abbrev pub decreases-variables : goal.decreases-variables
decreases-variables l = length l.tokens - l.at
