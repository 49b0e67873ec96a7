use Rattle.m5_flat_typing.proofs.Refused.{sends_elsewhere}
use Rattle.m5_flat_typing.proofs.laws.sends_elsewhere_holds.Goals as goal

pub returns : goal.returns
returns c = sends_elsewhere
