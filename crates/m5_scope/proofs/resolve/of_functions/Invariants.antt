use Rattle.std.proofs.Common.{◌≡◌, ◌++◌, length}
use Rattle.m5_scope.specs.Places.{function_lists}
use Rattle.m5_scope.proofs.resolve.of_functions.Given as goal

abbrev pub invariant-loop-item : goal.invariant-loop-item
invariant-loop-item l = l.list ++ function_lists l.rest ≡ l.initial.list ++ function_lists l.items

abbrev pub decreases-loop-item : goal.decreases-loop-item
decreases-loop-item l = length l.rest
