use Rattle.std.proofs.Common.{◌∙◌}
use Rattle.m5_scope.specs.Meaning.{known}
use Rattle.m5_scope.proofs.Spine.{partway_goes}
use Rattle.m5_scope.proofs.expression.+expression.Goals as goal

pub of_pairs-loop-part-preserved : goal.of_pairs-loop-part-preserved
of_pairs-loop-part-preserved t c = (
  c.in_ok-node.ensures.table ∙ c.loop-part.invariant.0,
  partway_goes _ (known c.loop-part.table) _ _ _ _ _ c.loop-part.next _ _ _ c.loop-part.rest.now c.in-Some.part.now c.in-Some.more.now c.in_ok-node.node c.loop-part.invariant.1 c.in-Some.ensures.cases.0 c.loop-part.invariant.0 c.in_ok-node.ensures.value c.in_ok-node.ensures.next c.in_ok-add_head.ensures,
)
