use Rattle.std.proofs.Common.{refl, sym, ◌∙◌}
use Rattle.m5_site.proofs.Computed.{if_ok}
use Rattle.m5_net.proofs.Turns.{answer_turned, stop_turned, wrong_turned, asks_waits, look_waits, stop_waits, wrong_waits, looks_going, ready_turned}
use Rattle.m5_net.proofs.turn.turn.Goals as goal

pub returns-in_ok-ask-in-Ask-clause-turned : goal.returns-in_ok-ask-in-Ask-clause-turned
returns-in_ok-ask-in-Ask-clause-turned c = λ n N i b a.
    let k = c.in_ok-compute.ensures in
    let z = c.compute.new.self in
    if_ok _ _ c.answer_turn.result (λ t h. answer_turned c.args.object.now c.args.site z c.args.shared.now c.answer_turn.new.shared t k.session k.world k.of (asks_waits z.wait (sym c.in-Ask.is ∙ k.need)) h k.comes n N i b a) c.answer_turn.ensures.turned

pub returns-in-Take-clause-turned : goal.returns-in-Take-clause-turned
returns-in-Take-clause-turned c = λ n N i b a.
    let k = c.in_ok-compute.ensures in
    let z = c.compute.new.self in
    if_ok _ _ c.answer_turn-in-Take.result (λ t h. answer_turned c.args.object.now c.args.site z c.args.shared.now c.answer_turn-in-Take.new.shared t k.session k.world k.of (looks_going z.wait (look_waits z.wait k.comes.something (sym c.in-Take.is ∙ k.need))) h k.comes n N i b a) c.answer_turn-in-Take.ensures.turned

pub returns-in_ok-_done-in-Stop-clause-turned : goal.returns-in_ok-_done-in-Stop-clause-turned
returns-in_ok-_done-in-Stop-clause-turned c =
    let k = c.in_ok-compute.ensures in
    let z = c.compute.new.self in
    stop_turned c.args.object.now c.args.site z c.args.shared.now c.act.new.self c.in-Stop.cause c.in_ok-_done-in-Stop._done _ _ (c.session.ensures ∙ k.session) (c.world.ensures ∙ k.world) (stop_waits z.wait c.in-Stop.cause (sym c.in-Stop.is ∙ k.need)) c.in_ok-_done-in-Stop.ensures.act k.comes

pub returns-in-Wrong-clause-turned : goal.returns-in-Wrong-clause-turned
returns-in-Wrong-clause-turned c =
    let k = c.in_ok-compute.ensures in
    let z = c.compute.new.self in
    wrong_turned c.args.object.now c.args.site z c.args.shared.now c.args.shared.now c.in-Wrong.label refl (wrong_waits z.wait c.in-Wrong.label (sym c.in-Wrong.is ∙ k.need)) k.comes

pub returns-in_ok-ask-in-Ask-clause-ready : goal.returns-in_ok-ask-in-Ask-clause-ready
returns-in_ok-ask-in-Ask-clause-ready c =
    let k = c.in_ok-compute.ensures in
    if_ok _ _ c.answer_turn.result (λ t h. ready_turned c.args.object.now c.compute.new.self c.args.site.session c.args.site.world c.args.shared.now c.answer_turn.new.shared t k.session k.world h) c.answer_turn.ensures.turned

pub returns-in-Take-clause-ready : goal.returns-in-Take-clause-ready
returns-in-Take-clause-ready c =
    let k = c.in_ok-compute.ensures in
    if_ok _ _ c.answer_turn-in-Take.result (λ t h. ready_turned c.args.object.now c.compute.new.self c.args.site.session c.args.site.world c.args.shared.now c.answer_turn-in-Take.new.shared t k.session k.world h) c.answer_turn-in-Take.ensures.turned
