use Rattle.std.proofs.Common.{◌≡◌, ◌∙◌, refl, sym, ap, subst, arith}
use Rattle.std.proofs.lemmas.Result.{IfOk-weaker}
use Rattle.m5_cps_convert.proofs.Closed.{still_there}
use Rattle.m5_cps_convert.proofs.Growing.{grows_trans}
use Rattle.m5_cps_convert.proofs.Operated.{operation_emits}
use Rattle.m5_cps_convert.proofs.Bodies.{function_emits, spawn_emits, division_emits, given_grows}
use Rattle.m5_cps_convert.proofs.Binaries.{ask_emits, let_emits, two_emits}
use Rattle.m5_cps_convert.proofs.Choosing.{variable_body, goal_body, apart_emits, parts_emit, apart_parts, get_emits, arm_inside, arm_block, choice_emits}
use Rattle.m5_cps_convert.proofs.Departing.{away_emits}
use Rattle.m5_cps_convert.proofs.Nested.{wait_more, pairs_emit, later_in_text}
use Rattle.m5_terms.specs.Expression.{binary}
use Rattle.m5_terms.specs.declared.form.BinaryForm.TheVariants.{Pair}
use Rattle.m5_cps.specs.declared.step.Test.{Test}
use Rattle.m5_cps_convert.specs.code.Choices.{EndsTest}
use Rattle.m5_cps_convert.proofs.+emit.Goals as goal

pub node::emit_operation-returns : goal.node::emit_operation-returns
node::emit_operation-returns t c =
    IfOk-weaker c.finish_operation.result _ _
    (λ v h.
    operation_emits c.args.walk.now c.emit.new.walk c.finish_operation.new.walk c.args.around c.in_ok-inside.inside c.args.filled c.args.goal _ c.args.first.now c.in_ok-part.part v
    c.requires.operation c.in_ok-inside.ensures c.in_ok-part.ensures h) c.finish_operation.ensures

pub node::emit_division-resume-requires : goal.node::emit_division-resume-requires
node::emit_division-resume-requires t c =
    still_there _ _ c.give.new.walk c.args.goal c.args.filled c.in_ok-held.held c.in_ok-held.ensures (grows_trans c.in_ok-part.ensures.grows (given_grows _ _ _ _ _ _ _ c.in_ok-give.ensures))

pub node::emit_division-returns : goal.node::emit_division-returns
node::emit_division-returns t c =
    IfOk-weaker c.resume.result _ _
    (λ v h.
    division_emits c.args.walk.now c.add_quotient.new.walk c.hold.new.walk c.emit.new.walk c.give.new.walk c.resume.new.walk c.args.around c.args.filled _ c.args.goal c.args.first.now
    c.in_ok-held.held c.in_ok-part.part _ v _ c.in_ok-ty.ensures c.in_ok-held.ensures c.in_ok-part.ensures c.in_ok-give.ensures c.taking.ensures h) c.resume.ensures

pub node::emit_function-returns : goal.node::emit_function-returns
node::emit_function-returns t c =
    IfOk-weaker c.go_on.result _ _
    (λ v h.
    function_emits c.args.walk.now c.head_of.new.walk c.begin_closure.new.walk c.within.new.walk c.close_behind.new.walk c.go_on.new.walk c.signature_of.new.types c.args.around _
    c.args.filled _ c.args.goal _ c.args.first.now c.in_ok-head.head c.in_ok-pending.pending _ c.in_ok-body.body v c.in_ok-signature.signature _ c.requires.function
    c.in_ok-head.ensures c.in_ok-pending.ensures c.world.ensures c.in_block-inside.ensures c.in_ok-body.ensures c.in_ok-signature.ensures refl c.close_behind.ensures
    c.in_ok-next_number.ensures h) c.go_on.ensures

pub node::emit_spawn-returns : goal.node::emit_spawn-returns
node::emit_spawn-returns t c =
    IfOk-weaker c.give.result _ _
    (λ v h.
    spawn_emits c.args.walk.now c.begin_closure.new.walk c.emit.new.walk c.close_behind.new.walk c.give.new.walk c.args.around _ c.args.filled _ _ _ c.args.goal c.args.first.now
    c.in_ok-pending.pending _ v _ (record { is = c.unit-unit.ensures }) c.in_ok-argument.ensures c.in_ok-body.ensures c.in_ok-pending.ensures c.in_block-inside.ensures c.in_ok-emit.ensures
    c.close_behind.ensures c.taking.ensures h) c.give.ensures

pub node::emit_ask-returns : goal.node::emit_ask-returns
node::emit_ask-returns t c =
    IfOk-weaker c.ask.result _ _
    (λ v h.
    ask_emits c.args.walk.now c.emit.new.walk c.ask.new.walk c.args.around c.args.filled c.args.goal c.args.prim c.args.first.now c.args.second.now c.in_ok-argument.argument v
    c.requires.direct c.in_ok-argument.ensures h) c.ask.ensures

pub node::emit_let-returns : goal.node::emit_let-returns
node::emit_let-returns t c =
    IfOk-weaker c.within.result _ _
    (λ v h.
    let_emits c.args.walk.now c.emit.new.walk c.begin_let.new.walk c.within.new.walk c.args.around c.args.filled c.args.goal c.args.form c.args.first.now c.args.second.now
    c.in_ok-value.value v c.in_ok-inside.inside c.requires.declares c.in_ok-value.ensures c.in_ok-inside.ensures h) c.within.ensures

pub node::emit_two-returns : goal.node::emit_two-returns
node::emit_two-returns t c =
    IfOk-weaker c.finish_two.result _ _
    (λ v h.
    two_emits c.args.walk.now c.emit.new.walk c.emit-2.new.walk c.finish_two.new.walk c.args.around c.args.filled c.args.goal c.args.form c.args.first.now c.args.second.now
    c.in_ok-value.value c.in_ok-other.other v c.requires.form.0 c.requires.form.1 c.in_ok-value.ensures c.in_ok-other.ensures h) c.finish_two.ensures

pub gets::emit_body-returns-in-Some : goal.gets::emit_body-returns-in-Some
gets::emit_body-returns-in-Some t c =
    IfOk-weaker c.get_variable.result _ _
    (λ v h.
    variable_body c.args.walk.now c.get_variable.new.walk c.args.around c.args.world c.in-Some.variable c.args.address c.args.continuation v c.args.node.now (sym c.in-Some.ensures) h)
    c.get_variable.ensures

pub gets::emit_body-returns-in_ok-go_or_send-in-None : goal.gets::emit_body-returns-in_ok-go_or_send-in-None
gets::emit_body-returns-in_ok-go_or_send-in-None t c =
    goal_body c.args.walk.now c.begin_closure.new.walk c.emit.new.walk c.close_behind.new.walk c.go_or_send.new.walk c.args.around _ c.args.world c.args.address c.args.continuation _ _
    c.in_ok-pending-in-None.pending _ c.args.node.now c.in_ok-value-in-None.value (sym c.in-None.ensures) c.in_ok-waiting-in-None.ensures c.in_ok-body-in-None.ensures
    c.in_ok-pending-in-None.ensures c.in_block-inside.ensures c.in_ok-value-in-None.ensures c.close_behind.ensures c.awaiting.ensures c.in_ok-go_or_send-in-None.ensures

pub gets::emit_apart-returns : goal.gets::emit_apart-returns
gets::emit_apart-returns t c =
    IfOk-weaker c.emit_body.result _ _
    (λ ty h.
    apart_emits c.args.walk.now c.emit.new.walk c.emit_body.new.walk c.args.around c.args.filled c.args.continuation c.args.first.now c.args.second.now c.in_ok-address.address
    c.place_of-world.result ty c.in_ok-address.ensures c.place_of-world.ensures h) c.emit_body.ensures

pub gets::emit_away-returns : goal.gets::emit_away-returns
gets::emit_away-returns t c =
    away_emits c.args.walk.now c.begin_test.new.walk c.begin_closure.new.walk c.emit.new.walk c.send_home.new.walk c.close_behind.new.walk c.end_test.new.walk _ _ _ _ c.args.around _ _
    c.args.world c.args.filled c.args.continuation _ _ _ _ _ _ c.args.second.now c.in_ok-pending.pending c.in_ok-value.value _ c.world-own.ensures c.in_ok-address.ensures
    c.in_ok-block.ensures c.in_ok-argument.ensures c.in_ok-body.ensures c.in_ok-push.ensures.ok c.in_ok-place.ensures c.in_ok-push-2.ensures.ok c.in_ok-pending.ensures
    c.in_block-inside.ensures c.in_ok-value.ensures c.in_ok-send_home.ensures c.in_ok-ty.ensures c.taking.ensures c.close_behind.ensures c.in_ok-push-3.ensures.ok c.end_test.ensures

pub gets::emit_parts-returns-in_ok-rest-in-Some : goal.gets::emit_parts-returns-in_ok-rest-in-Some
gets::emit_parts-returns-in_ok-rest-in-Some t c =
    IfOk-weaker c.emit_apart.result _ _
    (λ ty h.
    parts_emit c.args.walk.now c.emit_away.new.walk c.emit_apart.new.walk c.args.around _ c.in-Some.world c.args.filled c.args.continuation _ c.args.first.now c.args.second.now ty
    c.world.ensures (sym c.in-Some.ensures) c.in_ok-rest-in-Some.ensures h) c.emit_apart.ensures

pub gets::emit_parts-returns-in-None : goal.gets::emit_parts-returns-in-None
gets::emit_parts-returns-in-None t c =
    IfOk-weaker c.emit_apart-in-None.result _ _
    (λ ty h.
    apart_parts c.args.walk.now c.emit_apart-in-None.new.walk c.args.around _ c.args.filled c.args.continuation c.args.first.now c.args.second.now ty c.world.ensures
    (sym c.in-None.ensures) h) c.emit_apart-in-None.ensures

pub gets::emit_get-returns : goal.gets::emit_get-returns
gets::emit_get-returns t c =
    IfOk-weaker c.resume.result _ _
    (λ v h.
    get_emits c.args.walk.now c.hold.new.walk c.emit_parts.new.walk c.resume.new.walk c.args.around c.args.filled c.args.goal c.args.first.now c.args.second.now c.in_ok-held.held v _ _
    c.in_ok-held.ensures c.in_ok-ty.ensures c.taking.ensures h) c.resume.ensures

pub node::emit_arm-returns-then-around-lt-OPEN_ARMS : goal.node::emit_arm-returns-then-around-lt-OPEN_ARMS
node::emit_arm-returns-then-around-lt-OPEN_ARMS t c =
    arm_inside c.args.inside.binding c.args.walk.now c.within.new.walk c.args.around c.in_ok-arm.arm c.args.inside.filled c.args.continuation c.args.whole c.args.node.now c.in_ok-value.value
    c.if-around-lt-OPEN_ARMS.true c.in_ok-arm.ensures c.in_ok-value.ensures

pub node::emit_arm-returns : goal.node::emit_arm-returns
node::emit_arm-returns t c =
    arm_block c.args.inside.binding c.args.walk.now c.begin_closure.new.walk c.within-2.new.walk c.close_behind.new.walk _ c.args.around _ c.args.inside.filled c.args.continuation _ _ _
    c.args.whole c.args.node.now c.in_ok-pending.pending _ c.in_ok-value-2.value c.if-around-lt-OPEN_ARMS.false c.in_ok-waiting.ensures c.in_ok-body.ensures c.in_ok-pending.ensures
    c.in_block-block.ensures c.in_ok-value-2.ensures c.whole_or_own-ty.ensures c.close_behind.ensures c.awaiting.ensures c.in_ok-push.ensures.ok

pub node::emit_choice-returns : goal.node::emit_choice-returns
node::emit_choice-returns t c =
    IfOk-weaker c.resume.result _ _
    (λ v h.
    choice_emits c.args.walk.now c.emit.new.walk c.hold.new.walk c.begin_test.new.walk c.emit_arm.new.walk c.end_test.new.walk c.emit_arm-2.new.walk c.resume.new.walk c.args.around
    c.args.filled c.args.goal c.args.form c.args.first.now c.args.second.now c.args.third.now c.in_ok-chosen.chosen v c.in_ok-held.held c.in_ok-place.place _ _ c.in_ok-inside.inside
    c.in_ok-inside-2.inside _ c.in_ok-chosen.ensures c.in_ok-held.ensures c.in_ok-place.ensures c.in_ok-inside.ensures c.in_ok-ty.ensures
    (subst (λ (x : Test). EndsTest c.emit_arm.new.walk c.end_test.new.walk c.in_ok-place.place x c.in_ok-chosen.chosen.slot) c.test_of-test.ensures c.end_test.ensures)
    c.in_ok-inside-2.ensures c.in_ok-emit_arm.ensures c.taking.ensures h) c.resume.ensures

pub node::emit_pairs-loop-part-preserved : goal.node::emit_pairs-loop-part-preserved
node::emit_pairs-loop-part-preserved t c =
    let arm = c.in-Binary-Pair-default-default in
    let q : binary Pair arm.part.now arm.later.now ≡ c.loop-part.rest.now = ap (λ g. binary g arm.part.now arm.later.now) (sym arm.field-0-is) ∙ arm.ensures.value in
    record {
      wait = wait_more c.args.walk.now c.loop-part.walk c.emit-in-Binary-Pair-default-default.new.walk c.args.around c.args.filled c.loop-part.next
          (binary Pair c.args.first.now c.args.second.now) c.loop-part.rest.now arm.part.now arm.later.now c.in_ok-value.value c.loop-part.waiting.items _ c.loop-part.invariant.wait q
          c.in_ok-value.ensures c.in_ok-wait-2.ensures;
      smaller = omega (arith, arm.ensures.smaller, c.loop-part.invariant.smaller);
      text = later_in_text arm.part.now arm.later.now c.loop-part.rest.now q c.loop-part.invariant.text;
    }

pub node::emit_pairs-returns : goal.node::emit_pairs-returns
node::emit_pairs-returns t c =
    IfOk-weaker c.pair_up.result _ _
    (λ v h.
    pairs_emit c.args.walk.now c.loop-part.walk c.emit-2.new.walk c.pair_up.new.walk c.args.around c.args.filled c.loop-part.next c.args.goal
    (binary Pair c.args.first.now c.args.second.now) c.loop-part.rest.now c.in_ok-last.last v c.loop-part.waiting.items c.loop-part.invariant.wait c.in_ok-last.ensures h) c.pair_up.ensures
