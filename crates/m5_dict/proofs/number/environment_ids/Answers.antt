use Rattle.m5_flat.specs.Steps.{kind_of}
use Rattle.m5_dict.specs.Standing.{slot_target}
use Rattle.m5_dict.proofs.Growing.{grows_on, know_on}
use Rattle.m5_dict.proofs.Ending.{zip_next}
use Rattle.m5_dict.proofs.number.environment_ids.Goals as goal

pub kind_id-requires : goal.kind_id-requires
kind_id-requires c = record { known = know_on _ _ _ _ c.loop-kind.invariant.1 c.requires.known }

pub loop-kind-preserved : goal.loop-kind-preserved
loop-kind-preserved c = (
  rw c.in_ok-push.ensures.items (zip_next (λ k. slot_target (kind_of c.args.types.now k)) _ _ c.loop-kind.ids.items c.in_ok-kind_id.field-0 c.args.kinds.now c.loop-kind.kind-index _ c.loop-kind.invariant.0 c.in_ok-kind_id.ensures.grows c.loop-kind-test.true c.in_ok-kind_id.ensures.stands),
  grows_on _ _ _ c.loop-kind.invariant.1 c.in_ok-kind_id.ensures.grows,
)
