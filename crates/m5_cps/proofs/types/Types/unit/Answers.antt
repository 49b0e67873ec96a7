use Rattle.m5_cps.proofs.TypeRows.{unit_there}
use Rattle.m5_cps.proofs.types.Types.unit.Goals as goal

pub returns : goal.returns
returns c = unit_there c.self.inside.rows.items c.args.self.now c.self.invariant c.self.view_is
