use Rattle.std.proofs.Common.{ap, length, arith}
use Rattle.m5_cps.proofs.TypeRows.{count}
use Rattle.m5_cps.proofs.types.Types.count.Goals as goal

pub returns : goal.returns
returns c = omega (arith, c.len.ensures, count c.self.inside.rows.items, ap length c.self.view_is)
