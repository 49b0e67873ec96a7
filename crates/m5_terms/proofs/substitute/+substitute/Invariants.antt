use Rattle.std.proofs.Common.{◌+◌, ◌*◌}
use Rattle.m5_terms.specs.Expression.{node_count}
use Rattle.m5_terms.proofs.substitute.+substitute.Given as goal

abbrev pub decreases-in_part : goal.decreases-in_part
decreases-in_part l = 3 * node_count l.part.now + 2

abbrev pub decreases-replaced : goal.decreases-replaced
decreases-replaced l = 3 * node_count l.part.now + 1

abbrev pub decreases-in_term : goal.decreases-in_term
decreases-in_term l = 3 * node_count l.term.now
