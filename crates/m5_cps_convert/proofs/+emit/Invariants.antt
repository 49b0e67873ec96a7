use Rattle.std.proofs.Common.{◌+◌, ◌*◌, ◌≤◌, IsTrue}
use Rattle.m5_terms.specs.Expression.{node_count, unary, binary, ternary}
use Rattle.m5_terms.specs.Opened.{viewed_unary}
use Rattle.m5_terms.specs.declared.form.UnaryForm.TheVariants as unary_form
use Rattle.m5_terms.specs.declared.form.BinaryForm.TheVariants.{Call, Get, Pair}
use Rattle.m5_typing.specs.Program.{in_text}
use Rattle.m5_cps_convert.specs.code.Pairs.{PairsWait}
use Rattle.m5_cps_convert.proofs.+emit.Given as goal

abbrev pub decreases-node::within : goal.decreases-node::within
decreases-node::within l = 8 * node_count l.node.now + 2

abbrev pub decreases-node::emit : goal.decreases-node::emit
decreases-node::emit l = 8 * node_count l.node.now + 1

abbrev pub decreases-node::emit_operation : goal.decreases-node::emit_operation
decreases-node::emit_operation l = 8 * node_count (unary (viewed_unary l.form) l.first.now)

abbrev pub decreases-node::emit_division : goal.decreases-node::emit_division
decreases-node::emit_division l = 8 * node_count (unary unary_form.Div l.first.now)

abbrev pub decreases-node::emit_function : goal.decreases-node::emit_function
decreases-node::emit_function l = 8 * node_count (unary (viewed_unary l.form) l.first.now)

abbrev pub decreases-node::emit_spawn : goal.decreases-node::emit_spawn
decreases-node::emit_spawn l = 8 * node_count (unary unary_form.Spawn l.first.now)

abbrev pub decreases-node::emit_ask : goal.decreases-node::emit_ask
decreases-node::emit_ask l = 8 * node_count (binary Call l.first.now l.second.now)

abbrev pub decreases-node::emit_let : goal.decreases-node::emit_let
decreases-node::emit_let l = 8 * node_count (binary l.form l.first.now l.second.now)

abbrev pub decreases-node::emit_two : goal.decreases-node::emit_two
decreases-node::emit_two l = 8 * node_count (binary l.form l.first.now l.second.now)

abbrev pub decreases-gets::emit_body : goal.decreases-gets::emit_body
decreases-gets::emit_body l = 8 * node_count l.node.now + 2

abbrev pub decreases-gets::emit_apart : goal.decreases-gets::emit_apart
decreases-gets::emit_apart l = 8 * (node_count l.first.now + node_count l.second.now) + 3

abbrev pub decreases-gets::emit_away : goal.decreases-gets::emit_away
decreases-gets::emit_away l = 8 * node_count l.second.now + 2

abbrev pub decreases-gets::emit_parts : goal.decreases-gets::emit_parts
decreases-gets::emit_parts l = 8 * (node_count l.first.now + node_count l.second.now) + 4

abbrev pub decreases-gets::emit_get : goal.decreases-gets::emit_get
decreases-gets::emit_get l = 8 * node_count (binary Get l.first.now l.second.now)

abbrev pub decreases-node::emit_arm : goal.decreases-node::emit_arm
decreases-node::emit_arm l = 8 * node_count l.node.now + 3

abbrev pub decreases-node::emit_choice : goal.decreases-node::emit_choice
decreases-node::emit_choice l = 8 * node_count (ternary l.form l.first.now l.second.now l.third.now)

abbrev pub decreases-node::emit_pairs : goal.decreases-node::emit_pairs
decreases-node::emit_pairs l = 8 * node_count (binary Pair l.first.now l.second.now)

abbrev pub invariant-node::emit_pairs-loop-part : goal.invariant-node::emit_pairs-loop-part
invariant-node::emit_pairs-loop-part l = record {
  wait : PairsWait l.fn.walk l.walk l.fn.around l.fn.filled (binary Pair l.fn.first l.fn.second) l.waiting.items l.next l.rest;
  smaller : node_count l.rest ≤ node_count l.fn.second;
  text : IsTrue (in_text l.rest);
}

abbrev pub decreases-node::emit_pairs-loop-part : goal.decreases-node::emit_pairs-loop-part
decreases-node::emit_pairs-loop-part l = node_count l.rest
