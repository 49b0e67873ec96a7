use Rattle.std.proofs.Common.{◌∙◌, ◌++◌, ℕ, List, ap, sym}
use Rattle.std.proofs.lemmas.Result.{err_from_is_err_and}
use Rattle.std.specs.Fmt.{decimal}
use Rattle.m5_js.specs.declared.input.LineEnd.TheVariants.{Bad}
use Rattle.m5_js.proofs.Lines.{no_label_guess, no_label_text}
use Rattle.m5_js.proofs.input.Input.label.Goals as goal

pub returns-in-None-clause-err : goal.returns-in-None-clause-err
returns-in-None-clause-err c = no_label_guess Bad _ (sym c.in-None.ensures)

pub returns-in_err-expect-clause-err : goal.returns-in_err-expect-clause-err
returns-in_err-expect-clause-err c =
    let p = err_from_is_err_and c.from_residual-in_err-expect.result c.from_residual-in_err-expect.ensures.1 in
    rw (p.1, p.2) (no_label_text _ _ _ c.in-Some.label (sym c.in-Some.ensures) (c.deref.ensures.value ∙ c.in_ok-put_number.ensures ∙ ap (λ (x : List ℕ). x ++ decimal c.in-Some.label) c.new-text.ensures.items) c.in_err-expect.ensures.err)
