use Rattle.std.proofs.Common.{◌≡◌, length}
use Rattle.m5_scope.specs.Tuple.{paired}
use Rattle.m5_scope.proofs.tuple.pairs_of.Given as goal

abbrev pub invariant-loop-head : goal.invariant-loop-head
invariant-loop-head l = paired l.heads.items l.node ≡ paired l.initial.heads.items l.initial.node

abbrev pub decreases-loop-head : goal.decreases-loop-head
decreases-loop-head l = length l.heads.items
