use Rattle.std.proofs.Common.{◌<◌, length, arith}
use Rattle.m5_cps.proofs.Lists.{item_there}
use Rattle.m5_cps.proofs.TypeRows.{row_read, none_read}
use Rattle.m5_cps.proofs.types.Types.row.Goals as goal

pub returns-then-number-len-clause-is : goal.returns-then-number-len-clause-is
returns-then-number-len-clause-is c =
    let h : c.args.number < length c.self.inside.rows.items = omega (arith, c.len.ensures, c.if-number-len.true) in
    (row_read _ c.args.self.now c.args.number _ c.self.invariant c.self.view_is (item_there _ _ _ h c.index.ensures)).0

pub returns-then-number-len-clause-parts : goal.returns-then-number-len-clause-parts
returns-then-number-len-clause-parts c =
    let h : c.args.number < length c.self.inside.rows.items = omega (arith, c.len.ensures, c.if-number-len.true) in
    (row_read _ c.args.self.now c.args.number _ c.self.invariant c.self.view_is (item_there _ _ _ h c.index.ensures)).1

pub returns-else-number-len-clause-is : goal.returns-else-number-len-clause-is
returns-else-number-len-clause-is c = none_read c.self.inside.rows.items c.args.self.now c.args.number c.self.view_is (omega (arith, c.len.ensures, c.if-number-len.false))
