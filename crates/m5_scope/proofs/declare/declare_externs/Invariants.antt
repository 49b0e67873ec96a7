use Rattle.std.proofs.Common.{◌≡◌, length}
use Rattle.m5_scope.specs.Meaning.{known}
use Rattle.m5_scope.specs.Program.{externs_known}
use Rattle.m5_scope.proofs.declare.declare_externs.Given as goal

abbrev pub invariant-loop-item : goal.invariant-loop-item
invariant-loop-item l = externs_known l.names (known l.initial.table) l.items ≡ externs_known l.names (known l.table) l.rest

abbrev pub decreases-loop-item : goal.decreases-loop-item
decreases-loop-item l = length l.rest
