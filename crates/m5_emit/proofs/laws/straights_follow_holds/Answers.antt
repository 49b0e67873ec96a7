use Rattle.m5_emit.proofs.Whole.{straights_follow}
use Rattle.m5_emit.proofs.laws.straights_follow_holds.Goals as goal

pub returns : goal.returns
returns c = straights_follow
