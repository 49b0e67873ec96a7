use Rattle.std.proofs.Common.{rules, arith, sym, ◌∙◌}
use Rattle.m5_parse.specs.Machine.{other}
use Rattle.m5_parse.proofs.Steps.{take_deep, take_on}
use Rattle.m5_parse.proofs.machine.take.Goals as goal

pub returns-then-not-leads_with-clause-stops : goal.returns-then-not-leads_with-clause-stops
returns-then-not-leads_with-clause-stops c keep o ss ns vs os is = other (sym c.leads_with.ensures ∙ c.if-not-leads_with.true) is

pub returns-then-level-gt-LIMIT-clause-stops : goal.returns-then-level-gt-LIMIT-clause-stops
returns-then-level-gt-LIMIT-clause-stops c keep o ss ns vs os is =
    take_deep o keep _ ss _ _ (sym c.leads_with.ensures ∙ c.if-not-leads_with.false) c.if-level-gt-LIMIT.true is

pub returns-in-Some-clause-reads : goal.returns-in-Some-clause-reads
returns-in-Some-clause-reads c keep o ss ns vs os k =
    take_on o keep _ ss _ _ c.in-Some.token.now c.in-Some.more.now (sym c.leads_with.ensures ∙ c.if-not-leads_with.false) (search rules) (omega arith) k
