-- The coding of tables of blocks.
use Rattle.std.specs.Prelude.{ℕ, List, refl}
use Rattle.std.specs.Coded.{Coded, code_by, coded×, coded_list, coded_ℕ}
use Rattle.m5_terms.specs.TypeExpression.{TypeExpression, type_code}
use Rattle.m5_cps.specs.declared.step.Step.{Step}
use Rattle.m5_cps.specs.contracts.step.Step as step_row
use Rattle.m5_cps.specs.declared.cps.Start.{Start}
use Rattle.m5_cps.specs.contracts.cps.Start as start_row
use Rattle.m5_cps.specs.Table.{Table}

abbrev pub table_code : Coded Table
table_code =
    code_by (List TypeExpression × (List Step × (List Start × ℕ)))
    (coded× (coded_list type_code) (coded× (coded_list step_row.the_row.coded) (coded× (coded_list start_row.the_row.coded) coded_ℕ)))
    (λ t. (t.types, (t.steps, (t.functions, t.main))))
    (λ q. record { types = q.0; steps = q.1.0; functions = q.1.1.0; main = q.1.1.1 }) (λ _. refl)
