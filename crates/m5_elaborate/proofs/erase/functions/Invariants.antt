use Rattle.std.proofs.Common.{◌≡◌, ◌++◌, length}
use Rattle.m5_elaborate.specs.Erased.{erased_functions}
use Rattle.m5_elaborate.proofs.erase.functions.Given as goal

abbrev pub invariant-loop-item : goal.invariant-loop-item
invariant-loop-item l = l.list ++ erased_functions l.rest ≡ erased_functions l.items

abbrev pub decreases-loop-item : goal.decreases-loop-item
decreases-loop-item l = length l.rest
