use Rattle.m5_typing.proofs.Declared.{declared_is_typed}
use Rattle.m5_typing.proofs.laws.declared_is_typed_holds.Goals as goal

pub returns : goal.returns
returns c = declared_is_typed
