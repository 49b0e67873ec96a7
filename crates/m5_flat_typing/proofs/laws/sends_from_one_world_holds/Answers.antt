use Rattle.m5_flat_typing.proofs.Refused.{sends_from_one_world}
use Rattle.m5_flat_typing.proofs.laws.sends_from_one_world_holds.Goals as goal

pub returns : goal.returns
returns c = sends_from_one_world
