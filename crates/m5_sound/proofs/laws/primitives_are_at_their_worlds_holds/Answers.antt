use Rattle.m5_sound.proofs.Networks.{at-their-worlds}
use Rattle.m5_sound.proofs.laws.primitives_are_at_their_worlds_holds.Goals as goal

pub returns : goal.returns
returns c = at-their-worlds
