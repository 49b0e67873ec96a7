use Rattle.m5_flat_typing.proofs.Sites.{next_fits}
use Rattle.m5_flat_typing.proofs.laws.typed_flat_goes_on_holds.Goals as goal

pub returns : goal.returns
returns c B d L u s r t = next_fits B d u r L s t
