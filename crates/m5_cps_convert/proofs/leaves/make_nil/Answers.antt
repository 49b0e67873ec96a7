use Rattle.m5_cps_convert.proofs.Leaf.{nil_made}
use Rattle.m5_cps_convert.proofs.leaves.make_nil.Goals as goal

pub returns : goal.returns
returns c = nil_made c.args.walk.now _ _ c.args.around _ _ _ c.in_ok-content.ensures c.in_ok-ty.ensures
