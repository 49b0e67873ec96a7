use Rattle.m5_parse.proofs.Steps.{phrase_on, phrase_lighter, act_on}
use Rattle.m5_parse.proofs.machine.step.Goals as goal

pub returns-in_ok-push_all-in-Nt-clause-goes : goal.returns-in_ok-push_all-in-Nt-clause-goes
returns-in_ok-push_all-in-Nt-clause-goes c o r =
    phrase_on o _ c.in-Nt.phrase c.choice.result.now _ _ _ _ c.in-Nt.is c.choice.ensures c.in_ok-push_all-in-Nt.ensures r

pub returns-in_ok-push_all-in-Nt-clause-lighter : goal.returns-in_ok-push_all-in-Nt-clause-lighter
returns-in_ok-push_all-in-Nt-clause-lighter c =
    phrase_lighter _ c.in-Nt.phrase c.choice.result.now _ _ _ c.in-Nt.is c.choice.ensures c.in_ok-push_all-in-Nt.ensures

pub returns-in_ok-perform-in-Act-clause-goes : goal.returns-in_ok-perform-in-Act-clause-goes
returns-in_ok-perform-in-Act-clause-goes c o r =
    act_on o _ c.in-Act.action _ _ _ _ _ c.in-Act.is c.in_ok-perform-in-Act.ensures.state c.in_ok-perform-in-Act.ensures.pending r
