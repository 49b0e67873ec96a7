use Rattle.m5_flat_typing.proofs.Refused.{asks_at_its_world}
use Rattle.m5_flat_typing.proofs.laws.asks_at_its_world_holds.Goals as goal

pub returns : goal.returns
returns c = asks_at_its_world
