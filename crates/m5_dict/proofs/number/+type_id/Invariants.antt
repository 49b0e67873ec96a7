use Rattle.m5_terms.specs.TypeExpression.{type_node_count}
use Rattle.m5_cps.specs.TypesByNumber.{type_in}
use Rattle.m5_dict.proofs.number.+type_id.Given as goal

abbrev pub decreases-type_id : goal.decreases-type_id
decreases-type_id l = type_node_count (type_in l.types.now l.number)
