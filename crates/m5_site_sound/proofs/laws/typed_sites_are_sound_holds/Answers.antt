use Rattle.m5_site_sound.proofs.Soundness.{sites-are-sound}
use Rattle.m5_site_sound.proofs.laws.typed_sites_are_sound_holds.Goals as goal

pub returns : goal.returns
returns c = sites-are-sound
