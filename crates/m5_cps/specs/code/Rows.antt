-- The types for which rows stand.
use Rattle.std.specs.Prelude.{◌≡◌, ◌<◌, ℕ, zero, suc, List, [], ◌∷◌, ◌++◌, length, Some, slice_get}
use Rattle.m5_terms.specs.TypeExpression.{TypeExpression, unit}
use Rattle.m5_cps.specs.declared.types.TypeRow.{TypeRow}
use Rattle.m5_cps.specs.declared.types.TypeRow.TheVariants as row
use Rattle.m5_cps.specs.TypesByNumber.{type_in, row_type}

-- the parts are among the first n types
abbrev pub IsRow : ℕ → TypeRow → Type 0
IsRow n (row.Product a b) = (a < n) × (b < n)
IsRow n (row.Sum a b) = (a < n) × (b < n)
IsRow n (row.Function a b) = (a < n) × (b < n)
IsRow n (row.List a) = a < n
IsRow n (row.Cell a) = a < n
IsRow n (row.Sham a) = a < n
IsRow n (row.At a w) = a < n
IsRow n _ = Unit {0}

-- the types of further rows, after these
abbrev pub types_after : List TypeExpression → List TypeRow → List TypeExpression
types_after known [] = known
types_after known (r ∷ rows) = types_after (known ++ row_type known r ∷ []) rows

abbrev pub types_of : List TypeRow → List TypeExpression
types_of rows = types_after [] rows

-- each row's parts stand before it, where so many stand before the first
abbrev pub AreRowsAfter : ℕ → List TypeRow → Type 0
AreRowsAfter n [] = Unit {0}
AreRowsAfter n (r ∷ rows) = IsRow n r × AreRowsAfter (suc n) rows

abbrev pub AreRows : List TypeRow → Type 0
AreRows rows = AreRowsAfter 0 rows

pub record AreTypes (rows : List TypeRow) : Type 0 where
  pub parts : AreRows rows
  pub first : slice_get rows 0 ≡ Some row.Unit

-- the number means the same among so many types of which the first is unit, and has a type
pub record IsSettledPart (a count b : ℕ) : Type 0 where
  pub there : b < count
  pub same : (types : List TypeExpression) → length types ≡ count → type_in types 0 ≡ unit → type_in types b ≡ type_in types a

pub record IsSettled (r : TypeRow) (count : ℕ) (q : TypeRow) : Type 0 where
  pub parts : IsRow count q
  pub same : (types : List TypeExpression) → length types ≡ count → type_in types 0 ≡ unit → row_type types q ≡ row_type types r
