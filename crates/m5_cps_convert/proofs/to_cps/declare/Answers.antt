use Rattle.std.proofs.Common.{arith}
use Rattle.m5_cps_convert.proofs.Assembled.{declares_none, declares_more, declares_all}
use Rattle.m5_cps_convert.proofs.to_cps.declare.Goals as goal

pub loop-function-init : goal.loop-function-init
loop-function-init c = declares_none c.args.types.now _ c.new-numbers.ensures.items

pub loop-function-preserved : goal.loop-function-preserved
loop-function-preserved c =
    declares_more c.args.types.now c.loop-function.types c.add_type.new.types c.add_type-in-loop-function.new.types c.add_row.new.types c.args.functions.now c.loop-function.function-index _
    c.function-item.result c.loop-function.numbers.items _ _ _ c.in_ok-whole.whole c.loop-function.invariant c.loop-function-test.true c.function-item.is c.in_ok-argument.ensures
    c.in_ok-result.ensures c.in_ok-whole.ensures c.in_ok-push.ensures.items (omega arith)

pub returns : goal.returns
returns c = declares_all c.args.types.now c.loop-function.types c.args.functions.now c.loop-function.function-index c.loop-function.numbers.items c.loop-function.invariant c.loop-function-test.false
