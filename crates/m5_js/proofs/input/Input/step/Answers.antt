use Rattle.std.proofs.Common.{◌∙◌, ◌++◌, ℕ, List, ap, sym}
use Rattle.std.proofs.lemmas.Result.{err_from_is_err_and}
use Rattle.m5_js.specs.code.Bodies.{step_text}
use Rattle.m5_js.proofs.Steps.{no_guess, no_page, no_room, no_text}
use Rattle.m5_js.specs.declared.input.LineEnd.TheVariants.{Bad}
use Rattle.m5_js.proofs.input.Input.step.Goals as goal

pub returns-in-None-clause-err : goal.returns-in-None-clause-err
returns-in-None-clause-err c = no_guess Bad _ _ (sym c.in_ok-step.ensures.guess ∙ c.in-None.is)

pub returns-then-not-is_page_step-clause-err : goal.returns-then-not-is_page_step-clause-err
returns-then-not-is_page_step-clause-err c = λ s r k. no_page _ _ r c.in-Some.step s (sym c.in_ok-step.ensures.guess ∙ c.in-Some.is) (sym c.if-not-is_page_step.ensures) k

pub returns-then-not-has_room-clause-err : goal.returns-then-not-has_room-clause-err
returns-then-not-has_room-clause-err c = λ s r k. no_room _ _ r c.in-Some.step s (sym c.in_ok-step.ensures.guess ∙ c.in-Some.is) (c.has_room.ensures.no c.if-not-has_room.true) k

pub returns-in_err-expect-clause-err : goal.returns-in_err-expect-clause-err
returns-in_err-expect-clause-err c =
    let p = err_from_is_err_and c.from_residual-in_err-expect.result c.from_residual-in_err-expect.ensures.1 in
    rw (p.1, p.2) (no_text _ _ _ _ c.in-Some.step (sym c.in_ok-step.ensures.guess ∙ c.in-Some.is) (c.deref.ensures.value ∙ c.in_ok-put_step.ensures ∙ ap (λ (x : List ℕ). x ++ step_text c.args.number c.in-Some.step) c.new-text.ensures.items) c.in_err-expect.ensures.err)
