use Rattle.m5_cps_typing.proofs.Rows.{rows_fit}
use Rattle.m5_cps_typing.proofs.laws.rows_fit_holds.Goals as goal

pub returns : goal.returns
returns c E b n S K k d h = rows_fit E k b n S K d h
