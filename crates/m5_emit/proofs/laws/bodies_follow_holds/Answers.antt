use Rattle.m5_emit.proofs.Bodies.{bodies_follow}
use Rattle.m5_emit.proofs.laws.bodies_follow_holds.Goals as goal

pub returns : goal.returns
returns c = bodies_follow
