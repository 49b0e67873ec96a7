use Rattle.m5_typing.proofs.Weaken.{weakening}
use Rattle.m5_typing.proofs.laws.weakening_holds.Goals as goal

pub returns : goal.returns
returns c = weakening
