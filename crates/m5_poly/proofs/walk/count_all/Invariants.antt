use Rattle.std.proofs.Common.{◌≡◌, drop}
use Rattle.m5_poly.specs.Walk.{all_counted}
use Rattle.m5_poly.specs.code.Views.{scope_of}
use Rattle.m5_poly.specs.code.Walking.{state_of}
use Rattle.m5_poly.proofs.walk.count_all.Given as goal

-- what is left to count gives the answer
abbrev pub invariant-loop-placed : goal.invariant-loop-placed
invariant-loop-placed l = all_counted (scope_of l.scope) (drop l.placed-index l.tokens) (state_of l.state) ≡ all_counted (scope_of l.scope) l.tokens (state_of l.initial.state)
