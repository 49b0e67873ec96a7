use Rattle.m5_sound.proofs.Networks.{opening-is-typed}
use Rattle.m5_sound.proofs.laws.opening_is_typed_holds.Goals as goal

pub returns : goal.returns
returns c = opening-is-typed
