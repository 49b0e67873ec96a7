use Rattle.m5_cps_convert.proofs.Nested.{pair_made}
use Rattle.m5_cps_convert.proofs.pairs.pair.Goals as goal

pub returns : goal.returns
returns c = pair_made c.args.walk.now _ _ c.args.first c.args.second _ _ c.in_ok-ty.ensures c.in_ok-push.ensures.ok c.in_ok-next_number.ensures
