use Rattle.std.proofs.Common.{◌≡◌, ◌++◌, length}
use Rattle.m5_scope.specs.Places.{extern_lists}
use Rattle.m5_scope.proofs.resolve.of_externs.Given as goal

abbrev pub invariant-loop-item : goal.invariant-loop-item
invariant-loop-item l = l.list ++ extern_lists l.rest ≡ l.initial.list ++ extern_lists l.items

abbrev pub decreases-loop-item : goal.decreases-loop-item
decreases-loop-item l = length l.rest
