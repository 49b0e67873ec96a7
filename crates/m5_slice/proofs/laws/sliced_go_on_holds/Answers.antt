use Rattle.m5_slice.proofs.Same.{sliced_go_on}
use Rattle.m5_slice.proofs.laws.sliced_go_on_holds.Goals as goal

pub returns : goal.returns
returns c = sliced_go_on
