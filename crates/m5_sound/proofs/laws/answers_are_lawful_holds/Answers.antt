use Rattle.m5_sound.proofs.Holding.{are-lawful}
use Rattle.m5_sound.proofs.laws.answers_are_lawful_holds.Goals as goal

pub returns : goal.returns
returns g c = are-lawful g.C.StopCondition.licensed
