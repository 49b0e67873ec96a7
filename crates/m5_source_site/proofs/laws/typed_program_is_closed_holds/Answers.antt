use Rattle.m5_source_site.proofs.TypedClosed.{typed_closed}
use Rattle.m5_source_site.proofs.laws.typed_program_is_closed_holds.Goals as goal

pub returns : goal.returns
returns c = typed_closed
