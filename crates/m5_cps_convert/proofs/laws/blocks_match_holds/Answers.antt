use Rattle.m5_cps_convert.proofs.Matched.{matches}
use Rattle.m5_cps_convert.proofs.laws.blocks_match_holds.Goals as goal

pub returns : goal.returns
returns c = λ P u d i. matches P u d i
