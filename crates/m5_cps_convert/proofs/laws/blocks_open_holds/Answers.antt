use Rattle.m5_cps_convert.proofs.Matched.{opens}
use Rattle.m5_cps_convert.proofs.laws.blocks_open_holds.Goals as goal

pub returns : goal.returns
returns c = opens
