use Rattle.m5_close.proofs.Limited.{closed_are_limited}
use Rattle.m5_close.proofs.laws.closed_are_limited_holds.Goals as goal

pub returns : goal.returns
returns c = closed_are_limited
