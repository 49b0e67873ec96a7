use Rattle.std.proofs.Common.{arith, ap}
use Rattle.m5_raw.specs.Resolved.{node_count}
use Rattle.m5_elaborate.proofs.Erasing.{main_bounded}
use Rattle.m5_elaborate.proofs.elaborate.check_main.Goals as goal

pub check-requires-clause-room : goal.check-requires-clause-room
check-requires-clause-room c = omega (arith, main_bounded c.args.raw.now c.functions-known.ensures.limits, ap node_count c.main.ensures)
