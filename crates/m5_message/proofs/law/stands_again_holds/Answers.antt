use Rattle.m5_message.proofs.Packs.{stands_again}
use Rattle.m5_message.proofs.law.stands_again_holds.Goals as goal

pub returns : goal.returns
returns c = stands_again
