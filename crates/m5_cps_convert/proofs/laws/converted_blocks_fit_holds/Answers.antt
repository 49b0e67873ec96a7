use Rattle.m5_cps_convert.proofs.Fitting.{blocks_fit}
use Rattle.m5_cps_convert.proofs.laws.converted_blocks_fit_holds.Goals as goal

pub returns : goal.returns
returns c = blocks_fit
