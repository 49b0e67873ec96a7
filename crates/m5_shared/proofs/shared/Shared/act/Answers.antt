use Rattle.std.proofs.Common.{refl, subst, false, true, ◌≡◌, ◌∙◌, sym}
use Rattle.m5_shared.specs.Shared.{SharedBoard, IsAct}
use Rattle.m5_shared.specs.contracts.shared.Shared.{the_view}
use Rattle.m5_shared.proofs.Acts.{act_nothing, act_entry}
use Rattle.m5_shared.proofs.shared.Shared.act.Goals as goal

pub returns-then-is_nothing-clause-act : goal.returns-then-is_nothing-clause-act
returns-then-is_nothing-clause-act c =
    let new : SharedBoard = record { board = c.answer.new.self; entries = c.self.inside.held_entries } in
    subst (λ (o : SharedBoard). IsAct c.args.session c.args.world c.args.ask o new c.delivered-reply.result) c.self.view_is
    (act_nothing c.args.session c.args.world c.posted.result c.args.ask (the_view c.self.inside) new _ c.delivered-reply.result c.posted.ensures c.in_ok-reply.ensures.answered c.delivered-reply.ensures (c.is_nothing.ensures.0 c.if-is_nothing.true) refl)

pub returns-clause-act : goal.returns-clause-act
returns-clause-act c =
    let new : SharedBoard = record { board = c.answer.new.self; entries = c.push.new.self } in
    subst (λ (o : SharedBoard). IsAct c.args.session c.args.world c.args.ask o new c.delivered-reply.result) c.self.view_is
    (act_entry c.args.session c.args.world c.posted.result c.args.ask (the_view c.self.inside) new _ c.delivered-reply.result c.posted.ensures c.in_ok-reply.ensures.answered c.delivered-reply.ensures
    (λ e. let wrong : false ≡ true = sym c.if-is_nothing.false ∙ c.is_nothing.ensures.1 e in cc) c.in_ok-push.ensures.ok)
