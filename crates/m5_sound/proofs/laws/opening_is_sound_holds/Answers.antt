use Rattle.m5_sound.proofs.Networks.{opening-is-sound}
use Rattle.m5_sound.proofs.laws.opening_is_sound_holds.Goals as goal

pub returns : goal.returns
returns c = opening-is-sound
