use Rattle.m5_sound.proofs.Networks.{no-wrong}
use Rattle.m5_sound.proofs.laws.no_site_goes_wrong_holds.Goals as goal

pub returns : goal.returns
returns c = no-wrong
