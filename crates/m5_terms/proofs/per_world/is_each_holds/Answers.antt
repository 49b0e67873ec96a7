use Rattle.m5_terms.proofs.PerWorlds.{is-each}
use Rattle.m5_terms.proofs.per_world.is_each_holds.Goals as goal

pub returns : goal.returns
returns g c = is-each g.row.T.Denot
