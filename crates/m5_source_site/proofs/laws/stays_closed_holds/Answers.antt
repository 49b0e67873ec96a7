use Rattle.m5_source_site.proofs.Closing.{stays_closed}
use Rattle.m5_source_site.proofs.laws.stays_closed_holds.Goals as goal

pub returns : goal.returns
returns c = stays_closed
