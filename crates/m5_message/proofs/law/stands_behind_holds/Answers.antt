use Rattle.m5_message.proofs.Shift.{stands_behind}
use Rattle.m5_message.proofs.law.stands_behind_holds.Goals as goal

pub returns : goal.returns
returns c = stands_behind
