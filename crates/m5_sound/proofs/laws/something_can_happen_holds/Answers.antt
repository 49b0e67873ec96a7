use Rattle.m5_sound.proofs.Progress.{can-happen}
use Rattle.m5_sound.proofs.laws.something_can_happen_holds.Goals as goal

pub returns : goal.returns
returns c = can-happen
