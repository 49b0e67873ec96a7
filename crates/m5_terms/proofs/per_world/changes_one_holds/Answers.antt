use Rattle.m5_terms.proofs.PerWorlds.{changes-one}
use Rattle.m5_terms.proofs.per_world.changes_one_holds.Goals as goal

pub returns : goal.returns
returns g c = changes-one g.row.T.Denot
