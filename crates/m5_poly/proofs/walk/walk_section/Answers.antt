use Rattle.m5_poly.specs.code.Views.{scope_of}
use Rattle.m5_poly.specs.code.Walking.{state_of}
use Rattle.m5_poly.proofs.Walking.{section_walked, section_refused}
use Rattle.m5_poly.proofs.walk.walk_section.Goals as goal

pub returns-in-Ok-clause-ok : goal.returns-in-Ok-clause-ok
returns-in-Ok-clause-ok c = λ ss. rw c.in-Some.is
    (section_walked c.args.text.now.generics c.args.before (scope_of c.outside-scope.result) c.in-Some.tokens.now (state_of c.args.state.now) (state_of c.walk.new.state)
    c.outside-scope.ensures c.in-Ok.ensures.ok ss)

pub returns-clause-err : goal.returns-clause-err
returns-clause-err c = λ ss n. rw c.in-Some.is
    (section_refused c.args.text.now.generics c.args.before (scope_of c.outside-scope.result) c.in-Some.tokens.now (state_of c.args.state.now) c.in-Err.end
    c.outside-scope.ensures c.in-Err.ensures.err ss n)
