use Rattle.m5_sound.proofs.Networks.{each-goes-on}
use Rattle.m5_sound.proofs.laws.each_thread_goes_on_holds.Goals as goal

pub returns : goal.returns
returns c = each-goes-on
