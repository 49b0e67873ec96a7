-- What a borrow of one world's value leaves.
use Rattle.std.specs.Borrow.{Lends, Fml, RattleType, MutBor}
use Rattle.m5_terms.specs.declared.types.World.{World}
use Rattle.m5_terms.specs.declared.per_world.PerWorld.{PerWorld}
use Rattle.m5_terms.specs.contracts.per_world.PerWorld.{the_row}
use Rattle.m5_terms.specs.PerWorld.{with_at}

-- once the borrow r ends, the world has the last value written through r
abbrev pub lends_at : (T : RattleType) → MutBor (PerWorld T.Denot) → World → MutBor T.Denot → Fml
lends_at T p w r = Lends (the_row T) T p r (λ x. with_at w x p.now)
