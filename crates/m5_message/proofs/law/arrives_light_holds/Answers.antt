use Rattle.m5_message.proofs.Units.{arrives_light}
use Rattle.m5_message.proofs.law.arrives_light_holds.Goals as goal

pub returns : goal.returns
returns c = arrives_light
