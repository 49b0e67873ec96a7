use Rattle.m5_sound.proofs.Holding.{stay-right}
use Rattle.m5_sound.proofs.laws.numbers_stay_right_holds.Goals as goal

pub returns : goal.returns
returns g c = stay-right g.C.StopCondition.licensed
