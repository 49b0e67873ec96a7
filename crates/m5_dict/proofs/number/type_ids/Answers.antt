use Rattle.m5_dict.proofs.Growing.{know_more, one_longer}
use Rattle.m5_dict.proofs.number.type_ids.Goals as goal

pub loop-number-preserved : goal.loop-number-preserved
loop-number-preserved c = (
  rw c.in_ok-push.ensures.items (know_more c.args.types.now _ _ c.loop-number.ids.items c.in_ok-id.id c.loop-number.number c.in_ok-id.ensures.grows c.loop-number.invariant.0 c.loop-number.invariant.1 c.in_ok-id.ensures.stands),
  rw c.in_ok-push.ensures.items (one_longer c.loop-number.ids.items c.in_ok-id.id c.loop-number.number c.loop-number.invariant.1),
)
