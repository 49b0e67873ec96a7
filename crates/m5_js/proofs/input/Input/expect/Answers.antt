use Rattle.std.proofs.Common.{◌≡◌, ◌∙◌, take, ap, refl}
use Rattle.std.proofs.lemmas.List.{take_at}
use Rattle.m5_js.proofs.Steps.{differs}
use Rattle.m5_js.proofs.input.Input.expect.Goals as goal

pub returns-then-ne-clause-err : goal.returns-then-ne-clause-err
returns-then-ne-clause-err c = λ r e.
    let same : c.split_at.result.0.now ≡ c.args.word.now = c.split_at.ensures.front ∙ ap (take _) e ∙ take_at c.args.word.now r _ refl in
    differs c.split_at.result.0.now c.args.word.now c.if-ne.ensures same
