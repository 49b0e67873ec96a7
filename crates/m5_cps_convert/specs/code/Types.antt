-- What the numbers of types stand for.
use Rattle.std.specs.Prelude.{◌≡◌, ◌++◌, ℕ, List, [], ◌∷◌, length, Some, slice_get}
use Rattle.m5_terms.specs.TypeExpression.{TypeExpression}
use Rattle.m5_cps.specs.declared.types.TypeRow.{TypeRow}
use Rattle.m5_cps.specs.TypesByNumber.{row_type}
use Rattle.m5_cps_convert.specs.code.Writing.{Keeps}

-- the number has the type
pub record IsAt (types : List TypeExpression) (n : ℕ) (A : TypeExpression) : Type 0 where
  pub is : slice_get types n ≡ Some A

pub record RowAdded (old new : List TypeExpression) (row : TypeRow) (n : ℕ) : Type 0 where
  pub number : n ≡ length old
  pub added : new ≡ old ++ row_type old row ∷ []

pub record TypeAdded (old new : List TypeExpression) (A : TypeExpression) (n : ℕ) : Type 0 where
  pub keeps : Keeps old new
  pub is : IsAt new n A

-- a part of the number's type
pub record IsPart (types : List TypeExpression) (n : ℕ) (part : TypeExpression → TypeExpression) (m : ℕ) : Type 0 where
  pub is : (A : TypeExpression) → IsAt types n A → IsAt types m (part A)
