use Rattle.m5_emit.proofs.Standing.{stands_on}
use Rattle.m5_emit.proofs.laws.stands_on_holds.Goals as goal

pub returns : goal.returns
returns c = λ os more a v h. stands_on os more a v h
