use Rattle.std.proofs.Common.{◌≡◌, ◌+◌, ◌≤◌, [], length}
use Rattle.m5_lex.specs.declared.place.Place.{Place}
use Rattle.m5_tree.specs.Syntax.{Syntax}
use Rattle.m5_scope.specs.Meaning.{known}
use Rattle.m5_scope.specs.Program.{functions_resolved, list_binders}
use Rattle.m5_scope.proofs.declare.declare_functions.Given as goal

abbrev pub invariant-loop-item : goal.invariant-loop-item
invariant-loop-item l =
    ((at : Place) (e : Syntax) → functions_resolved [] (known l.initial.table) l.initial.next l.items at e ≡ functions_resolved l.functions (known l.table) l.next l.rest at e)
    × (l.number ≡ length l.functions) × (l.number ≤ l.next) × (l.next + list_binders l.rest ≡ l.initial.next + list_binders l.items)

abbrev pub decreases-loop-item : goal.decreases-loop-item
decreases-loop-item l = length l.rest
