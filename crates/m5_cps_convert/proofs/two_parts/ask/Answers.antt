use Rattle.std.proofs.Common.{subst}
use Rattle.std.proofs.lemmas.Result.{IfOk-weaker}
use Rattle.m5_terms.specs.TypeExpression.{TypeExpression}
use Rattle.m5_cps_convert.specs.code.Types.{TypeAdded}
use Rattle.m5_cps_convert.proofs.Closed.{held_keeps}
use Rattle.m5_cps_convert.proofs.Joined.{ask_writes}
use Rattle.m5_cps_convert.proofs.two_parts.ask.Goals as goal

pub returns : goal.returns
returns c =
    IfOk-weaker c.resume.result _ _
    (λ v h.
    ask_writes c.args.walk.now c.hold.new.walk c.resume.new.walk c.add_type.new.types _ c.args.around c.args.prim c.args.argument c.args.goal _ c.result_of-ty.result
    c.in_ok-held.held _ v
    (subst (λ (A : TypeExpression). TypeAdded c.args.walk.now.types c.add_type.new.types A c.in_ok-function.function) c.in_ok-ty.ensures c.in_ok-function.ensures)
    c.result_of-ty.ensures c.in_ok-held.ensures c.in_ok-push.ensures.ok c.taking.ensures h
    (held_keeps _ c.hold.new.walk c.args.goal c.args.argument.filled c.in_ok-held.held c.in_ok-held.ensures)) c.resume.ensures
