use Rattle.m5_cps_convert.proofs.Matched.{plays}
use Rattle.m5_cps_convert.proofs.laws.blocks_play_holds.Goals as goal

pub returns : goal.returns
returns c = plays
