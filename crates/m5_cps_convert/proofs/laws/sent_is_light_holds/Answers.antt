use Rattle.m5_cps_convert.proofs.Matched.{light}
use Rattle.m5_cps_convert.proofs.laws.sent_is_light_holds.Goals as goal

pub returns : goal.returns
returns c = light
