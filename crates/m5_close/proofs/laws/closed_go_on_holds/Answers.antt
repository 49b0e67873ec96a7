use Rattle.m5_close.proofs.Whole.{closed_go_on}
use Rattle.m5_close.proofs.laws.closed_go_on_holds.Goals as goal

pub returns : goal.returns
returns c = closed_go_on
