use Rattle.m5_typing.proofs.Substitute.{substitution_law}
use Rattle.m5_typing.proofs.laws.substitution_holds.Goals as goal

pub returns : goal.returns
returns c = substitution_law
