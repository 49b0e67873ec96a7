use Rattle.std.proofs.lemmas.Result.{IfOk-weaker}
use Rattle.m5_cps_convert.proofs.Operated.{operation_writes}
use Rattle.m5_cps_convert.proofs.operations.finish_operation.Goals as goal

pub returns : goal.returns
returns c =
    IfOk-weaker c.give.result _ _
    (λ v h. operation_writes c.args.walk.now c.give.new.walk _ _ c.args.around _ c.args.part c.args.goal c.in_ok-made.made v c.world.ensures c.in_ok-made.ensures h) c.give.ensures
