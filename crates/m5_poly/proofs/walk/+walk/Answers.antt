use Rattle.std.proofs.Common.{sym, ◌∙◌, ap}
use Rattle.m5_poly.specs.Walk.{inside_of}
use Rattle.m5_poly.specs.code.Views.{scope_of, bracketed_of, generic_of}
use Rattle.m5_poly.specs.code.Walking.{use_of, state_of, walked_here}
use Rattle.m5_poly.proofs.Walking.{first_use, instance_walks, asked_earlier}
use Rattle.m5_poly.proofs.walk.+walk.Goals as goal

pub walk_first-returns-in-Ok-clause-ok : goal.walk_first-returns-in-Ok-clause-ok
walk_first-returns-in-Ok-clause-ok t c =
    first_use c.args.text.now.generics (scope_of c.args.scope.now) c.args.tokens.now c.in-Some.more.now c.in-Some.first.now (bracketed_of c.in-Some-use_at.naming)
    (state_of c.args.state.now) (state_of c.count.new.state) (state_of c.walk_use.new.state)
    c.in-Some.ensures.cases.0 c.in_default-count.ensures.ok (sym c.in-Some-use_at.ensures.found) c.in-Ok.ensures.ok

pub ask-returns-in-Ok-clause-ok : goal.ask-returns-in-Ok-clause-ok
ask-returns-in-Ok-clause-ok t c =
    asked_earlier c.args.text.now.generics (scope_of c.args.scope.now) (use_of c.args.used.now) (state_of c.args.state.now) c.requires (sym c.is_own.ensures ∙ c.if-not-is_own.true)
    ∙ c.in-Ok.ensures.ok

pub ask-returns-in-Err-clause-err : goal.ask-returns-in-Err-clause-err
ask-returns-in-Err-clause-err t c = λ n.
    asked_earlier c.args.text.now.generics (scope_of c.args.scope.now) (use_of c.args.used.now) (state_of c.args.state.now) c.requires (sym c.is_own.ensures ∙ c.if-not-is_own.true)
    ∙ c.in-Err.ensures.err n

pub walk_instance-returns-in-Ok-clause-ok : goal.walk_instance-returns-in-Ok-clause-ok
walk_instance-returns-in-Ok-clause-ok t c =
    instance_walks c.args.text.now.generics (use_of c.args.used.now) (generic_of c.in-Some.generic.now) (state_of c.args.state.now) (state_of c.count_head.new.state)
    (sym c.in-Some.ensures) c.in_default-count_head.ensures.ok
    ∙ ap (λ arguments. walked_here c.args.text.now.generics (inside_of c.args.used.now.generic (generic_of c.in-Some.generic.now) arguments) c.in-Some.generic.now.rest.now (state_of c.count_head.new.state))
    (sym c.as_slice.ensures.value)
    ∙ c.in-Ok.ensures.ok

pub walk_instance-returns-in-Err-walk-clause-err : goal.walk_instance-returns-in-Err-walk-clause-err
walk_instance-returns-in-Err-walk-clause-err t c = λ n.
    instance_walks c.args.text.now.generics (use_of c.args.used.now) (generic_of c.in-Some.generic.now) (state_of c.args.state.now) (state_of c.count_head.new.state)
    (sym c.in-Some.ensures) c.in_default-count_head.ensures.ok
    ∙ ap (λ arguments. walked_here c.args.text.now.generics (inside_of c.args.used.now.generic (generic_of c.in-Some.generic.now) arguments) c.in-Some.generic.now.rest.now (state_of c.count_head.new.state))
    (sym c.as_slice.ensures.value)
    ∙ c.in-Err-walk.ensures.err n
