use Rattle.m5_cps_convert.proofs.Matched.{all_met}
use Rattle.m5_cps_convert.proofs.laws.blocks_are_paid_holds.Goals as goal

pub returns : goal.returns
returns c = λ P u d i. all_met P u d i
