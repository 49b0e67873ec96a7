use Rattle.std.proofs.lemmas.Result.{IfOk-weaker}
use Rattle.m5_cps_convert.proofs.Written.{gives}
use Rattle.m5_cps_convert.proofs.writing.give.Goals as goal

pub returns : goal.returns
returns c =
    IfOk-weaker c.go_on.result _ _
    (λ v h. gives c.args.walk.now c.go_on.new.walk _ c.args.straight c.args.goal c.args.ty c.args.filled _ v c.in_ok-push.ensures.ok c.in_ok-next_number.ensures h) c.go_on.ensures
