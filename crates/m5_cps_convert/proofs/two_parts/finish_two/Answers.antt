use Rattle.std.proofs.lemmas.Result.{IfOk-weaker}
use Rattle.m5_cps_convert.proofs.Joined.{two_writes, no_call}
use Rattle.m5_cps_convert.proofs.two_parts.finish_two.Goals as goal

pub returns-in_ok-ty-in_default : goal.returns-in_ok-ty-in_default
returns-in_ok-ty-in_default c =
    IfOk-weaker c.give.result _ _
    (λ v h.
    two_writes c.args.walk.now c.give.new.walk _ c.args.form c.args.around c.args.first c.args.second c.args.goal _ v (no_call c.args.form c.in_default.not-Call)
    c.in_ok-ty-in_default.ensures h) c.give.ensures
