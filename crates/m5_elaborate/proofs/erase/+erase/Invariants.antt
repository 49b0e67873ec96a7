use Rattle.std.proofs.Common.{◌≡◌, ◌+◌, ◌*◌, ◌≤◌}
use Rattle.m5_terms.specs.Expression as term
use Rattle.m5_terms.specs.declared.form.BinaryForm.TheVariants.{Pair}
use Rattle.m5_raw.specs.Resolved.{node_count}
use Rattle.m5_elaborate.specs.Erased.{erased}
use Rattle.m5_elaborate.specs.Pairs.{nested_terms}
use Rattle.m5_elaborate.proofs.erase.+erase.Given as goal

abbrev pub decreases-erase : goal.decreases-erase
decreases-erase l = 4 * node_count l.node.now + 1

abbrev pub decreases-kept : goal.decreases-kept
decreases-kept l = 4 * node_count l.node.now + 2

abbrev pub decreases-erase_pairs : goal.decreases-erase_pairs
decreases-erase_pairs l = 4 * (1 + (node_count l.first.now + node_count l.second.now))

abbrev pub invariant-erase_pairs-loop-part : goal.invariant-erase_pairs-loop-part
invariant-erase_pairs-loop-part l = record {
  inner : node_count l.rest ≤ node_count l.fn.second;
  whole : nested_terms l.parts.items (erased l.rest) ≡ term.binary Pair (erased l.fn.first) (erased l.fn.second);
}

abbrev pub decreases-erase_pairs-loop-part : goal.decreases-erase_pairs-loop-part
decreases-erase_pairs-loop-part l = node_count l.rest
