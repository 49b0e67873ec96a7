use Rattle.m5_terms.proofs.Tables.{before_one, before_two}
use Rattle.m5_terms.proofs.table.Table.enter.Goals as goal

pub returns-in_ok-was-in-One-clause-before : goal.returns-in_ok-was-in-One-clause-before
returns-in_ok-was-in-One-clause-before g c = before_one _ _ _ _ _ c.in_ok-was-in-One.ensures.entries c.in_ok-was-in-One.ensures.was

pub returns-in_ok-first-in-Two-clause-before : goal.returns-in_ok-first-in-Two-clause-before
returns-in_ok-first-in-Two-clause-before g c =
    before_two _ _ _ _ _ _ _ _ _ c.in_ok-second-in-Two.ensures.entries c.in_ok-second-in-Two.ensures.was c.in_ok-first-in-Two.ensures.entries
    c.in_ok-first-in-Two.ensures.was
