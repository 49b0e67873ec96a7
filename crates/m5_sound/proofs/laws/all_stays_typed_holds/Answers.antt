use Rattle.m5_sound.proofs.Networks.{all-stays}
use Rattle.m5_sound.proofs.laws.all_stays_typed_holds.Goals as goal

pub returns : goal.returns
returns c = all-stays
