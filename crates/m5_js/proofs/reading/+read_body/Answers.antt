use Rattle.std.proofs.Common.{◌+◌, subst, arith}
use Rattle.std.proofs.lemmas.Result.{MatchResult-weaker, on_ok_weaker, err_from_is_err_and}
use Rattle.m5_machine.specs.declared.step.Step.{Step}
use Rattle.m5_js.specs.code.Bodies.{StepRead}
use Rattle.m5_js.proofs.Bodies.{no_step_body, no_body, no_word, here_fill, here_if, here_first, here_second, second_body, behind_first, behind_second, too_deep}
use Rattle.m5_js.proofs.Reached.{read_fill, read_if, read_go, read_ask, read_send, read_done}
use Rattle.m5_js.proofs.reading.+read_body.Goals as goal

pub returns-in_err-instruction-clause-err : goal.returns-in_err-instruction-clause-err
returns-in_err-instruction-clause-err t c =
    let p = err_from_is_err_and c.from_residual.result c.from_residual.ensures.1 in
    rw (p.1, p.2) (no_step_body _ c.args.level c.args.first c.loop-instruction.number _ _ c.loop-instruction.invariant.here c.in_err-instruction.ensures.err)

pub loop-instruction-preserved : goal.loop-instruction-preserved
loop-instruction-preserved t c =
    let s = subst (λ (s : Step). StepRead c.loop-instruction.number c.loop-instruction.input.rest.now s c.step.new.self.rest.now) c.in-Fill.is c.in_ok-instruction.ensures.ok in
    let room = s.room in
    record {
      room = omega (arith, room);
      found = λ new after m. c.loop-instruction.invariant.found new after (read_fill _ _ _ _ _ _ _ _ _ s c.in_ok-push-in-Fill.ensures.ok m);
      here = λ h. here_fill _ _ _ _ _ s (c.loop-instruction.invariant.here h);
    }

pub returns-then-level-eq-MOST_OPEN-clause-err : goal.returns-then-level-eq-MOST_OPEN-clause-err
returns-then-level-eq-MOST_OPEN-clause-err t c = λ h.
    let s = subst (λ (s : Step). StepRead c.loop-instruction.number c.loop-instruction.input.rest.now s c.step.new.self.rest.now) c.in-If.is c.in_ok-instruction.ensures.ok in
    too_deep c.args.level _ _ _ _ _ (omega (arith, c.if-level-eq-MOST_OPEN.true)) s (c.loop-instruction.invariant.here h)

pub returns-in_err-read_body-in-If-clause-err : goal.returns-in_err-read_body-in-If-clause-err
returns-in_err-read_body-in-If-clause-err t c =
    let s = subst (λ (s : Step). StepRead c.loop-instruction.number c.loop-instruction.input.rest.now s c.step.new.self.rest.now) c.in-If.is c.in_ok-instruction.ensures.ok in
    let p = err_from_is_err_and c.from_residual-in_err-read_body-in-If.result c.from_residual-in_err-read_body-in-If.ensures.1 in
    rw (p.1, p.2) (no_body _ c.args.level (c.args.level + 1) c.args.first c.loop-instruction.number _ _ (λ h. here_first _ _ _ (here_if _ _ _ _ _ _ s (c.loop-instruction.invariant.here h))) c.in_err-read_body-in-If.ensures.err)

pub returns-in_err-expect-in-If-clause-err : goal.returns-in_err-expect-in-If-clause-err
returns-in_err-expect-in-If-clause-err t c =
    let s = subst (λ (s : Step). StepRead c.loop-instruction.number c.loop-instruction.input.rest.now s c.step.new.self.rest.now) c.in-If.is c.in_ok-instruction.ensures.ok in
    let p = err_from_is_err_and c.from_residual-in_err-expect-in-If.result c.from_residual-in_err-expect-in-If.ensures.1 in
    rw (p.1, p.2) (no_word _ c.args.level c.args.first _ _ _ (λ h. let b = here_if _ _ _ _ _ _ s (c.loop-instruction.invariant.here h) in (_, behind_first _ _ _ _ _ _ b c.in_ok-read_body-in-If.ensures.ok)) c.in_err-expect-in-If.ensures.err)

pub returns-in_err-read_body-in-If-2-clause-err : goal.returns-in_err-read_body-in-If-2-clause-err
returns-in_err-read_body-in-If-2-clause-err t c =
    let s = subst (λ (s : Step). StepRead c.loop-instruction.number c.loop-instruction.input.rest.now s c.step.new.self.rest.now) c.in-If.is c.in_ok-instruction.ensures.ok in
    let p = err_from_is_err_and c.from_residual-in_err-read_body-in-If-2.result c.from_residual-in_err-read_body-in-If-2.ensures.1 in
    rw (p.1, p.2) (no_body _ c.args.level (c.args.level + 1) c.args.first c.loop-instruction.number _ _
    (λ h. let b = here_if _ _ _ _ _ _ s (c.loop-instruction.invariant.here h) in second_body _ _ _ _ b (here_second _ _ _ _ _ _ _ b c.in_ok-read_body-in-If.ensures.ok c.in_ok-expect-in-If.ensures.ok)) c.in_err-read_body-in-If-2.ensures.err)

pub returns-in-If-clause-ok : goal.returns-in-If-clause-ok
returns-in-If-clause-ok t c =
    let s = subst (λ (s : Step). StepRead c.loop-instruction.number c.loop-instruction.input.rest.now s c.step.new.self.rest.now) c.in-If.is c.in_ok-instruction.ensures.ok in
    on_ok_weaker c.expect-in-If.result (λ n. c.loop-instruction.invariant.found _ _ (read_if _ _ _ _ _ _ _ _ _ _ _ _ _ _ s c.in_ok-push-in-If.ensures.ok c.in_ok-read_body-in-If.ensures.ok c.in_ok-expect-in-If.ensures.ok c.in_ok-read_body-in-If-2.ensures.ok n)) c.expect-in-If.ensures.ok

pub returns-in-If-clause-err : goal.returns-in-If-clause-err
returns-in-If-clause-err t c =
    let s = subst (λ (s : Step). StepRead c.loop-instruction.number c.loop-instruction.input.rest.now s c.step.new.self.rest.now) c.in-If.is c.in_ok-instruction.ensures.ok in
    MatchResult-weaker c.expect-in-If.result c.expect-in-If.ensures.err (λ x u. u) (λ e n. no_word e c.args.level c.args.first _ _ _
    (λ h. let b = here_if _ _ _ _ _ _ s (c.loop-instruction.invariant.here h) in (_, behind_second _ _ _ _ _ _ _ b (here_second _ _ _ _ _ _ _ b c.in_ok-read_body-in-If.ensures.ok c.in_ok-expect-in-If.ensures.ok) c.in_ok-read_body-in-If-2.ensures.ok)) n)

pub returns-in-Go-clause-ok : goal.returns-in-Go-clause-ok
returns-in-Go-clause-ok t c =
    let s = subst (λ (s : Step). StepRead c.loop-instruction.number c.loop-instruction.input.rest.now s c.step.new.self.rest.now) c.in-Go.is c.in_ok-instruction.ensures.ok in
    on_ok_weaker c.push-in-Go.result (λ n. c.loop-instruction.invariant.found _ _ (read_go _ _ _ _ _ _ _ _ c.requires.level c.loop-instruction.invariant.room s n)) c.push-in-Go.ensures.ok

pub returns-in-Ask-clause-ok : goal.returns-in-Ask-clause-ok
returns-in-Ask-clause-ok t c =
    let s = subst (λ (s : Step). StepRead c.loop-instruction.number c.loop-instruction.input.rest.now s c.step.new.self.rest.now) c.in-Ask.is c.in_ok-instruction.ensures.ok in
    on_ok_weaker c.push-in-Ask.result (λ n. c.loop-instruction.invariant.found _ _ (read_ask _ _ _ _ _ _ _ _ _ c.requires.level c.loop-instruction.invariant.room s n)) c.push-in-Ask.ensures.ok

pub returns-in-Send-clause-ok : goal.returns-in-Send-clause-ok
returns-in-Send-clause-ok t c =
    let s = subst (λ (s : Step). StepRead c.loop-instruction.number c.loop-instruction.input.rest.now s c.step.new.self.rest.now) c.in-Send.is c.in_ok-instruction.ensures.ok in
    on_ok_weaker c.push-in-Send.result (λ n. c.loop-instruction.invariant.found _ _ (read_send _ _ _ _ _ _ _ _ _ c.requires.level c.loop-instruction.invariant.room s n)) c.push-in-Send.ensures.ok

pub returns-in-Done-clause-ok : goal.returns-in-Done-clause-ok
returns-in-Done-clause-ok t c =
    let s = subst (λ (s : Step). StepRead c.loop-instruction.number c.loop-instruction.input.rest.now s c.step.new.self.rest.now) c.in-Done.is c.in_ok-instruction.ensures.ok in
    on_ok_weaker c.push-in-Done.result (λ n. c.loop-instruction.invariant.found _ _ (read_done _ _ _ _ _ _ c.requires.level c.loop-instruction.invariant.room s n)) c.push-in-Done.ensures.ok
