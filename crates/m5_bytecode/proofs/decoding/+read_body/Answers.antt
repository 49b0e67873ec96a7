use Rattle.std.proofs.Common.{◌≡◌, ◌+◌, subst, arith, length, length-append, ap}
use Rattle.std.proofs.lemmas.Result.{MatchResult-weaker, on_ok_weaker, err_from_is_err_and}
use Rattle.m5_machine.specs.declared.step.Step.{Step}
use Rattle.m5_bytecode.specs.Spelling.{body_bytes}
use Rattle.m5_bytecode.specs.code.Bodies.{StepRead}
use Rattle.m5_bytecode.proofs.Bodies.{no_step, no_body, here_fill, here_if, here_first, here_second, here_length, too_deep}
use Rattle.m5_bytecode.proofs.Reached.{read_fill, read_if, read_go, read_ask, read_send, read_done}
use Rattle.m5_bytecode.proofs.decoding.+read_body.Goals as goal

pub returns-in_err-instruction-clause-err : goal.returns-in_err-instruction-clause-err
returns-in_err-instruction-clause-err t c =
    let p = err_from_is_err_and c.from_residual.result c.from_residual.ensures.1 in
    rw (p.1, p.2) (no_step _ c.args.level _ _ c.loop-instruction.invariant.here c.in_err-instruction.ensures.err)

pub loop-instruction-preserved : goal.loop-instruction-preserved
loop-instruction-preserved t c =
    let s = subst (λ (s : Step). StepRead c.loop-instruction.input.rest.now s c.step.new.self.rest.now) c.in-Fill.is c.in_ok-instruction.ensures.ok in
    record {
      found = λ new after m. c.loop-instruction.invariant.found new after (read_fill _ _ _ _ _ _ _ _ s c.in_ok-push-in-Fill.ensures.ok m);
      here = λ h. here_fill _ _ _ _ s (c.loop-instruction.invariant.here h);
    }

pub returns-then-level-eq-MOST_OPEN-clause-err : goal.returns-then-level-eq-MOST_OPEN-clause-err
returns-then-level-eq-MOST_OPEN-clause-err t c = λ h.
    let s = subst (λ (s : Step). StepRead c.loop-instruction.input.rest.now s c.step.new.self.rest.now) c.in-If.is c.in_ok-instruction.ensures.ok in
    too_deep c.args.level _ _ _ _ (omega (arith, c.if-level-eq-MOST_OPEN.true)) s (c.loop-instruction.invariant.here h)

pub returns-in_err-read_body-in-If-clause-err : goal.returns-in_err-read_body-in-If-clause-err
returns-in_err-read_body-in-If-clause-err t c =
    let s = subst (λ (s : Step). StepRead c.loop-instruction.input.rest.now s c.step.new.self.rest.now) c.in-If.is c.in_ok-instruction.ensures.ok in
    let p = err_from_is_err_and c.from_residual-in_err-read_body-in-If.result c.from_residual-in_err-read_body-in-If.ensures.1 in
    rw (p.1, p.2) (no_body _ c.args.level (c.args.level + 1) _ _ (λ h. here_first _ _ _ (here_if _ _ _ _ _ s (c.loop-instruction.invariant.here h))) c.in_err-read_body-in-If.ensures.err)

pub returns-then-before-input-clause-err : goal.returns-then-before-input-clause-err
returns-then-before-input-clause-err t c = λ h.
    let s = subst (λ (s : Step). StepRead c.loop-instruction.input.rest.now s c.step.new.self.rest.now) c.in-If.is c.in_ok-instruction.ensures.ok in
    let b = here_if _ _ _ _ _ s (c.loop-instruction.invariant.here h) in
    let l = here_length _ _ _ _ _ _ b c.in_ok-read_body-in-If.ensures.ok in
    c.if-before-input.true (omega (arith, l))

pub returns-in-If-clause-ok : goal.returns-in-If-clause-ok
returns-in-If-clause-ok t c =
    let s = subst (λ (s : Step). StepRead c.loop-instruction.input.rest.now s c.step.new.self.rest.now) c.in-If.is c.in_ok-instruction.ensures.ok in
    let m = c.in_ok-read_body-in-If.ensures.ok in
    let long : length c.step.new.self.rest.now ≡ c.in-If.length + length c.read_body.new.input.rest.now =
    omega (arith, c.if-before-input.false, ap length m.is, length-append (body_bytes m.body) c.read_body.new.input.rest.now) in
    on_ok_weaker c.read_body-in-If.result (λ n. c.loop-instruction.invariant.found _ _ (read_if _ _ _ _ _ _ _ _ _ _ _ s c.in_ok-push-in-If.ensures.ok m long n)) c.read_body-in-If.ensures.ok

pub returns-in-If-clause-err : goal.returns-in-If-clause-err
returns-in-If-clause-err t c =
    let s = subst (λ (s : Step). StepRead c.loop-instruction.input.rest.now s c.step.new.self.rest.now) c.in-If.is c.in_ok-instruction.ensures.ok in
    let m = c.in_ok-read_body-in-If.ensures.ok in
    MatchResult-weaker c.read_body-in-If.result c.read_body-in-If.ensures.err (λ x u. u) (λ e n. no_body e c.args.level (c.args.level + 1) _ _ (λ h. here_second _ _ _ _ _ _ (here_if _ _ _ _ _ s (c.loop-instruction.invariant.here h)) m) n)

pub returns-in-Go-clause-ok : goal.returns-in-Go-clause-ok
returns-in-Go-clause-ok t c =
    let s = subst (λ (s : Step). StepRead c.loop-instruction.input.rest.now s c.step.new.self.rest.now) c.in-Go.is c.in_ok-instruction.ensures.ok in
    on_ok_weaker c.push-in-Go.result (λ n. c.loop-instruction.invariant.found _ _ (read_go _ _ _ _ _ _ _ c.requires s n)) c.push-in-Go.ensures.ok

pub returns-in-Ask-clause-ok : goal.returns-in-Ask-clause-ok
returns-in-Ask-clause-ok t c =
    let s = subst (λ (s : Step). StepRead c.loop-instruction.input.rest.now s c.step.new.self.rest.now) c.in-Ask.is c.in_ok-instruction.ensures.ok in
    on_ok_weaker c.push-in-Ask.result (λ n. c.loop-instruction.invariant.found _ _ (read_ask _ _ _ _ _ _ _ _ c.requires s n)) c.push-in-Ask.ensures.ok

pub returns-in-Send-clause-ok : goal.returns-in-Send-clause-ok
returns-in-Send-clause-ok t c =
    let s = subst (λ (s : Step). StepRead c.loop-instruction.input.rest.now s c.step.new.self.rest.now) c.in-Send.is c.in_ok-instruction.ensures.ok in
    on_ok_weaker c.push-in-Send.result (λ n. c.loop-instruction.invariant.found _ _ (read_send _ _ _ _ _ _ _ _ c.requires s n)) c.push-in-Send.ensures.ok

pub returns-in-Done-clause-ok : goal.returns-in-Done-clause-ok
returns-in-Done-clause-ok t c =
    let s = subst (λ (s : Step). StepRead c.loop-instruction.input.rest.now s c.step.new.self.rest.now) c.in-Done.is c.in_ok-instruction.ensures.ok in
    on_ok_weaker c.push-in-Done.result (λ n. c.loop-instruction.invariant.found _ _ (read_done _ _ _ _ _ c.requires s n)) c.push-in-Done.ensures.ok
