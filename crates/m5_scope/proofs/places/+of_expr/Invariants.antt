use Rattle.std.proofs.Common.{◌+◌, ◌*◌}
use Rattle.m5_tree.specs.Syntax.{node_count}
use Rattle.m5_scope.proofs.Measures.{weight}
use Rattle.m5_scope.proofs.places.+of_expr.Given as goal

abbrev pub decreases-of_pairs : goal.decreases-of_pairs
decreases-of_pairs l = weight l.place l.first.now l.parts.now

abbrev pub decreases-of_expr : goal.decreases-of_expr
decreases-of_expr l = 4 * node_count l.expr.now + 1
