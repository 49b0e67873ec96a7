-- The coding of tables of blocks under labels.
use Rattle.std.specs.Prelude.{ℕ, List, refl}
use Rattle.std.specs.Coded.{Coded, code_by, coded×, coded_list, coded_ℕ}
use Rattle.m5_terms.specs.TypeExpression.{TypeExpression, type_code}
use Rattle.m5_flat.specs.declared.step.Step.{Step}
use Rattle.m5_flat.specs.contracts.step.Step as step_row
use Rattle.m5_flat.specs.declared.label.Label.{Label}
use Rattle.m5_flat.specs.contracts.label.Label as label_row
use Rattle.m5_flat.specs.declared.label.Named.{Named}
use Rattle.m5_flat.specs.contracts.label.Named as named_row
use Rattle.m5_flat.specs.Table.{Table}

abbrev pub table_code : Coded Table
table_code =
    code_by (List TypeExpression × (List Step × (List Label × (List Named × (ℕ × ℕ)))))
    (coded× (coded_list type_code) (coded× (coded_list step_row.the_row.coded) (coded× (coded_list label_row.the_row.coded) (coded× (coded_list named_row.the_row.coded) (coded× coded_ℕ coded_ℕ)))))
    (λ t. (t.types, (t.steps, (t.labels, (t.primitives, (t.main, t.finish))))))
    (λ q. record { types = q.0; steps = q.1.0; labels = q.1.1.0; primitives = q.1.1.1.0; main = q.1.1.1.1.0; finish = q.1.1.1.1.1 }) (λ _. refl)
