-- Ids that are known while a program's labels are read.
use Rattle.std.specs.Prelude.{◌≡◌, ℕ, List, Some, slice_get}
use Rattle.m5_terms.specs.TypeExpression.{TypeExpression}
use Rattle.m5_cps.specs.TypesByNumber.{type_in}
use Rattle.m5_dictionary.specs.declared.line.TypeLine.{TypeLine}
use Rattle.m5_dict.specs.Standing.{Stands, type_target}

-- the ids of the first types, by number
pub record Knows (types : List TypeExpression) (L : List TypeLine) (known : List ℕ) : Type 0 where
  pub each : (n i : ℕ) → slice_get known n ≡ Some i → Stands L i (type_target (type_in types n))
