use Rattle.m5_hoist.proofs.Same.{same_goes_on}
use Rattle.m5_hoist.proofs.laws.hoisted_go_on_holds.Goals as goal

pub returns : goal.returns
returns c = same_goes_on
