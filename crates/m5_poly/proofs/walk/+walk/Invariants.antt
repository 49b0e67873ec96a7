use Rattle.std.proofs.Common.{◌≡◌, ◌≤◌, ◌+◌, ◌*◌, ◌-◌, length, drop}
use Rattle.m5_poly.specs.code.Views.{scope_of}
use Rattle.m5_poly.specs.code.Walking.{state_of, walked_here}
use Rattle.m5_poly.proofs.walk.+walk.Given as goal

-- an instance is walked in the scope of its declaration, where earlier ones may be used
abbrev pub decreases-make : goal.decreases-make
decreases-make l = 6 * l.used.now.generic + 5

abbrev pub decreases-walk_instance : goal.decreases-walk_instance
decreases-walk_instance l = 6 * l.used.now.generic + 4

abbrev pub decreases-walk : goal.decreases-walk
decreases-walk l = 6 * l.scope.now.before + 3

abbrev pub decreases-walk_first : goal.decreases-walk_first
decreases-walk_first l = 6 * l.scope.now.before + 2

abbrev pub decreases-walk_use : goal.decreases-walk_use
decreases-walk_use l = 6 * l.scope.now.before + 1

abbrev pub decreases-ask : goal.decreases-ask
decreases-ask l = 6 * l.scope.now.before

-- what is left to read gives the answer
abbrev pub invariant-walk-tokens : goal.invariant-walk-tokens
invariant-walk-tokens l =
    (walked_here l.text.generics (scope_of l.scope) (drop l.at l.tokens) (state_of l.state) ≡ walked_here l.text.generics (scope_of l.scope) l.tokens (state_of l.initial.state))
    × (l.at ≤ length l.tokens)

abbrev pub decreases-walk-tokens : goal.decreases-walk-tokens
decreases-walk-tokens l = length l.tokens - l.at
