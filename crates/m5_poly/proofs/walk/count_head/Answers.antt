use Rattle.std.proofs.Common.{◌≡◌, sym, subst, ◌∙◌}
use Rattle.std.specs.Prelude.{IfErr, OnOk}
use Rattle.m5_terms.specs.Outcome.{Outcome, found, fault}
use Rattle.m5_poly.specs.declared.end.PolyEnd.{PolyEnd}
use Rattle.m5_poly.specs.Uses.{outside}
use Rattle.m5_poly.specs.Walk.{State, all_counted, counted, head}
use Rattle.m5_poly.specs.code.Views.{scope_of, generic_of}
use Rattle.m5_poly.specs.code.Walking.{state_of}
use Rattle.m5_poly.proofs.Walking.{counted_after, counted_not, counted_last}
use Rattle.m5_poly.proofs.walk.count_head.Goals as goal

pub returns-in-Err-clause-err : goal.returns-in-Err-clause-err
returns-in-Err-clause-err c =
    rw (← c.outside-scope.ensures) (counted_not (scope_of c.outside-scope.result) c.args.generic.now.mark.now _ (state_of c.args.state.now) c.in-Err.end c.in-Err.ensures.err)

pub returns-in-Err-count_all-clause-err : goal.returns-in-Err-count_all-clause-err
returns-in-Err-count_all-clause-err c =
    rw (← c.outside-scope.ensures)
    (counted_after (scope_of c.outside-scope.result) c.args.generic.now.mark.now _ (state_of c.args.state.now) _ c.in_default.ensures.ok
    ∙ counted_not (scope_of c.outside-scope.result) c.args.generic.now.tilde.now _ _ c.in-Err-count_all.end c.in-Err-count_all.ensures.err)

-- the whole head is counted as its name is, behind the rest of it
pub returns-clause-ok : goal.returns-clause-ok
returns-clause-ok c =
    let same : all_counted (outside c.args.number) (head (generic_of c.args.generic.now)) (state_of c.args.state.now)
    ≡ counted (scope_of c.outside-scope.result) c.args.generic.now.own.now (state_of c.count_all-2.new.state) =
    rw (← c.outside-scope.ensures)
    (counted_after (scope_of c.outside-scope.result) c.args.generic.now.mark.now _ (state_of c.args.state.now) _ c.in_default.ensures.ok
    ∙ counted_after (scope_of c.outside-scope.result) c.args.generic.now.tilde.now _ _ _ c.in_default-count_all.ensures.ok
    ∙ counted_last (scope_of c.outside-scope.result) c.args.generic.now.own.now _) in
    let P : Outcome State PolyEnd → Type 0 = λ o. OnOk c.count.result (o ≡ found (state_of c.count.new.state)) in
    subst P (sym same) c.count.ensures.ok

pub returns-clause-err : goal.returns-clause-err
returns-clause-err c =
    let same : all_counted (outside c.args.number) (head (generic_of c.args.generic.now)) (state_of c.args.state.now)
    ≡ counted (scope_of c.outside-scope.result) c.args.generic.now.own.now (state_of c.count_all-2.new.state) =
    rw (← c.outside-scope.ensures)
    (counted_after (scope_of c.outside-scope.result) c.args.generic.now.mark.now _ (state_of c.args.state.now) _ c.in_default.ensures.ok
    ∙ counted_after (scope_of c.outside-scope.result) c.args.generic.now.tilde.now _ _ _ c.in_default-count_all.ensures.ok
    ∙ counted_last (scope_of c.outside-scope.result) c.args.generic.now.own.now _) in
    let P : Outcome State PolyEnd → Type 0 = λ o. IfErr c.count.result (λ e. o ≡ fault e) in
    subst P (sym same) c.count.ensures.err
