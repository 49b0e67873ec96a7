use Rattle.std.proofs.Common.{arith}
use Rattle.m5_elaborate.proofs.Erasing.{body_small}
use Rattle.m5_elaborate.proofs.elaborate.check_functions.Goals as goal

pub check_function-requires-clause-room : goal.check_function-requires-clause-room
check_function-requires-clause-room c =
    omega (
      arith,
      body_small c.args.raw.now c.functions-items.result.now c.loop-index.index c.index-items-index.result c.functions-items.ensures.limits c.functions-items.ensures.value
          c.loop-index-test.true c.index-items-index.is,
    )
