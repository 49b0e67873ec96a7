use Rattle.m5_cps_convert.proofs.Fitting.{blocks_few}
use Rattle.m5_cps_convert.proofs.laws.blocks_are_few_holds.Goals as goal

pub returns : goal.returns
returns c = blocks_few
