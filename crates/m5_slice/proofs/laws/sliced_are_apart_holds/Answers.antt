use Rattle.m5_slice.proofs.Parted.{sliced_are_apart}
use Rattle.m5_slice.proofs.laws.sliced_are_apart_holds.Goals as goal

pub returns : goal.returns
returns c = sliced_are_apart
