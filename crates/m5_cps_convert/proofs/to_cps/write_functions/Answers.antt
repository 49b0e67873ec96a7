use Rattle.std.proofs.Common.{arith}
use Rattle.m5_cps_convert.proofs.Assembled.{functions_begin, functions_step, functions_all}
use Rattle.m5_cps_convert.proofs.to_cps.write_functions.Goals as goal

pub loop-index-init : goal.loop-index-init
loop-index-init c = functions_begin c.args.walk.now c.args.functions.now _ c.new-starts.ensures.items

pub loop-index-preserved : goal.loop-index-preserved
loop-index-preserved c =
    functions_step c.args.walk.now c.loop-index.walk c.write_function.new.walk c.args.functions.now c.loop-index.index _ _ c.index-functions-index.result c.loop-index.starts.items _
    c.in_ok-start.start c.loop-index.invariant c.loop-index-test.true c.index-functions-index.is c.declared_number-whole.ensures c.in_ok-start.ensures c.in_ok-push.ensures.items (omega arith)

pub returns : goal.returns
returns c = functions_all c.args.walk.now c.loop-index.walk c.args.functions.now c.loop-index.index c.loop-index.starts.items c.loop-index.invariant c.loop-index-test.false
