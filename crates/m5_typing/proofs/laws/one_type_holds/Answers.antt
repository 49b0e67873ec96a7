use Rattle.m5_typing.proofs.Unique.{one_type}
use Rattle.m5_typing.proofs.laws.one_type_holds.Goals as goal

pub returns : goal.returns
returns c = one_type
