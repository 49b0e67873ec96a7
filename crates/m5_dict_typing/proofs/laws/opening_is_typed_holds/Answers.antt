use Rattle.m5_dict_typing.proofs.Sites.{opening_is_typed}
use Rattle.m5_dict_typing.proofs.laws.opening_is_typed_holds.Goals as goal

pub returns : goal.returns
returns c = opening_is_typed
