use Rattle.m5_typing.proofs.ClosedTerms.{closed_terms}
use Rattle.m5_typing.proofs.laws.typed_is_closed_holds.Goals as goal

pub returns : goal.returns
returns c = closed_terms
