use Rattle.m5_site_sound.proofs.Steps.{sites-go-on}
use Rattle.m5_site_sound.proofs.laws.typed_sites_go_on_holds.Goals as goal

pub returns : goal.returns
returns c = sites-go-on
