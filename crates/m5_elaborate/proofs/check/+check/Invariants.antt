use Rattle.std.proofs.Common.{◌≡◌, ◌+◌, ◌*◌, ◌≤◌}
use Rattle.m5_terms.specs.Table.{entries}
use Rattle.m5_terms.specs.Opened.{viewed_unary}
use Rattle.m5_terms.specs.declared.form.BinaryForm.TheVariants.{Pair}
use Rattle.m5_raw.specs.Resolved.{node_count, unary, binary, ternary}
use Rattle.m5_elaborate.specs.Names.{context}
use Rattle.m5_elaborate.specs.Checked.{checked, signatures}
use Rattle.m5_elaborate.specs.Pairs.{nested}
use Rattle.m5_elaborate.proofs.check.+check.Given as goal

abbrev pub decreases-within : goal.decreases-within
decreases-within l = 4 * node_count l.node.now + 2

abbrev pub decreases-check : goal.decreases-check
decreases-check l = 4 * node_count l.node.now + 1

abbrev pub decreases-check_unary : goal.decreases-check_unary
decreases-check_unary l = 4 * node_count (unary l.place (viewed_unary l.form) l.first.now)

abbrev pub decreases-check_binary : goal.decreases-check_binary
decreases-check_binary l = 4 * node_count (binary l.place l.form l.first.now l.second.now)

abbrev pub decreases-check_pairs : goal.decreases-check_pairs
decreases-check_pairs l = 4 * node_count (binary l.place Pair l.first.now l.second.now)

abbrev pub decreases-check_ternary : goal.decreases-check_ternary
decreases-check_ternary l = 4 * node_count (ternary l.place l.form l.first.now l.second.now l.third.now)

abbrev pub invariant-check_pairs-loop-part : goal.invariant-check_pairs-loop-part
invariant-check_pairs-loop-part l = record {
  names : entries l.names ≡ entries l.fn.names;
  inner : node_count l.rest ≤ node_count l.fn.second;
  whole : checked (signatures l.fn.known) (context l.fn.depth (entries l.fn.names)) l.fn.world (binary l.fn.place Pair l.fn.first l.fn.second)
      ≡ nested l.waiting.items (checked (signatures l.fn.known) (context l.fn.depth (entries l.fn.names)) l.fn.world l.rest);
}

abbrev pub decreases-check_pairs-loop-part : goal.decreases-check_pairs-loop-part
decreases-check_pairs-loop-part l = node_count l.rest
