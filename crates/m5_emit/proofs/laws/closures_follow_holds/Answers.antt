use Rattle.m5_emit.proofs.Closures.{closures_follow}
use Rattle.m5_emit.proofs.laws.closures_follow_holds.Goals as goal

pub returns : goal.returns
returns c = closures_follow
