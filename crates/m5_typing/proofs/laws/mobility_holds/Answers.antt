use Rattle.m5_typing.proofs.Mobile.{moves}
use Rattle.m5_typing.proofs.laws.mobility_holds.Goals as goal

pub returns : goal.returns
returns c = moves
