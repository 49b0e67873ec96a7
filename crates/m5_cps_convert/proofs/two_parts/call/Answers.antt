use Rattle.std.proofs.lemmas.Result.{IfOk-weaker}
use Rattle.m5_cps_convert.proofs.Closed.{held_keeps}
use Rattle.m5_cps_convert.proofs.Joined.{call_writes}
use Rattle.m5_cps_convert.proofs.two_parts.call.Goals as goal

pub returns : goal.returns
returns c =
    IfOk-weaker c.resume.result _ _
    (λ v h.
    call_writes c.args.walk.now c.hold.new.walk c.resume.new.walk _ c.args.around c.args.function c.args.argument c.args.goal c.result_of-ty.result c.in_ok-held.held _ v
    c.result_of-ty.ensures c.in_ok-held.ensures c.in_ok-push.ensures.ok c.taking.ensures h
    (held_keeps _ c.hold.new.walk c.args.goal c.args.argument.filled c.in_ok-held.held c.in_ok-held.ensures)) c.resume.ensures
