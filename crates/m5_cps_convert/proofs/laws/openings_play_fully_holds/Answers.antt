use Rattle.m5_cps_convert.proofs.Matched.{plays_fully}
use Rattle.m5_cps_convert.proofs.laws.openings_play_fully_holds.Goals as goal

pub returns : goal.returns
returns c = plays_fully
