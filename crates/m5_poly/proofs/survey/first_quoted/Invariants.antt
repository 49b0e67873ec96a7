use Rattle.std.proofs.Common.{◌≡◌, drop}
use Rattle.m5_poly.specs.Survey.{first_quoted}
use Rattle.m5_poly.proofs.survey.first_quoted.Given as goal

-- the answer is that of the tokens that are left
abbrev pub invariant-loop-placed : goal.invariant-loop-placed
invariant-loop-placed l = first_quoted (drop l.placed-index l.tokens) ≡ first_quoted l.tokens
