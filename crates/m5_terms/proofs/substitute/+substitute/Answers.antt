use Rattle.std.proofs.Common.{◌≡◌, IfOk, subst, sym}
use Rattle.m5_terms.specs.Expression.{Expression}
use Rattle.m5_terms.specs.Substitution.{substituted}
use Rattle.m5_terms.proofs.ClosedTerms.{closed-unchanged}
use Rattle.m5_terms.proofs.substitute.+substitute.Goals as goal

pub replaced-returns-then-is_known_closed : goal.replaced-returns-then-is_known_closed
replaced-returns-then-is_known_closed t c =
    let Gives : Expression → Type 0 = λ e. IfOk c.share.result (λ n. n ≡ e) in
    subst Gives (sym (closed-unchanged c.args.variable c.args.value.now c.args.part.now (c.is_known_closed.ensures c.if-is_known_closed.true))) c.share.ensures
