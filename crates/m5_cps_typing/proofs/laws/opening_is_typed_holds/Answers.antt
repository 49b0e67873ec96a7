use Rattle.m5_cps_typing.proofs.Sites.{opening_fits}
use Rattle.m5_cps_typing.proofs.laws.opening_is_typed_holds.Goals as goal

pub returns : goal.returns
returns c = opening_fits
