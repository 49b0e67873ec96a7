use Rattle.m5_emit.proofs.Endings.{endings_follow}
use Rattle.m5_emit.proofs.laws.endings_follow_holds.Goals as goal

pub returns : goal.returns
returns c = endings_follow
