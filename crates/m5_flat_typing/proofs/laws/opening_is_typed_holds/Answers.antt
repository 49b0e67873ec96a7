use Rattle.m5_flat_typing.proofs.Sites.{opening_fits}
use Rattle.m5_flat_typing.proofs.laws.opening_is_typed_holds.Goals as goal

pub returns : goal.returns
returns c B d u r = opening_fits B d u r
