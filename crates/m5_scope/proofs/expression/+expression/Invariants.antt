use Rattle.std.proofs.Common.{◌≡◌, ◌+◌, ◌*◌, length}
use Rattle.m5_tree.specs.Syntax.{node_count, unary, binary, ternary}
use Rattle.m5_tree.specs.Tuple.{pairs}
use Rattle.m5_scope.specs.Meaning.{known}
use Rattle.m5_scope.proofs.Measures.{weight}
use Rattle.m5_scope.proofs.Spine.{IsPartway}
use Rattle.m5_scope.proofs.expression.+expression.Given as goal

abbrev pub decreases-within : goal.decreases-within
decreases-within l = 4 * node_count l.expr.now + 2

abbrev pub decreases-expression : goal.decreases-expression
decreases-expression l = 4 * node_count l.expr.now + 1

abbrev pub decreases-of_pairs : goal.decreases-of_pairs
decreases-of_pairs l = weight l.place l.first.now l.parts.now

abbrev pub decreases-of_unary : goal.decreases-of_unary
decreases-of_unary l = 4 * node_count (unary l.place l.form.now l.first.now)

abbrev pub decreases-of_binary : goal.decreases-of_binary
decreases-of_binary l = 4 * node_count (binary l.place l.form l.first.now l.second.now)

abbrev pub decreases-of_ternary : goal.decreases-of_ternary
decreases-of_ternary l = 4 * node_count (ternary l.place l.form l.first.now l.second.now l.third.now)

abbrev pub invariant-of_pairs-loop-part : goal.invariant-of_pairs-loop-part
invariant-of_pairs-loop-part l =
    (known l.table ≡ known l.initial.table)
    × IsPartway (known l.initial.table) l.initial.next (pairs l.fn.place l.fn.first l.fn.parts) (weight l.fn.place l.fn.first l.fn.parts) l.heads.items l.next l.at l.expr l.rest

abbrev pub decreases-of_pairs-loop-part : goal.decreases-of_pairs-loop-part
decreases-of_pairs-loop-part l = length l.rest
