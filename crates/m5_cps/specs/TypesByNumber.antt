-- What a type by number is.
use Rattle.std.specs.Prelude.{ℕ, List, Option, Some, None, slice_get}
use Rattle.m5_terms.specs.TypeExpression as type
use Rattle.m5_terms.specs.TypeExpression.{TypeExpression}
use Rattle.m5_cps.specs.declared.types.TypeRow.{TypeRow}
use Rattle.m5_cps.specs.declared.types.TypeRow.TheVariants as row

abbrev pub or_unit : Option TypeExpression → TypeExpression
or_unit None = type.unit
or_unit (Some A) = A

-- the type of a number, and unit where there is none
abbrev pub type_in : List TypeExpression → ℕ → TypeExpression
type_in types n = or_unit (slice_get types n)

abbrev pub row_type : List TypeExpression → TypeRow → TypeExpression
row_type types row.Unit = type.unit
row_type types row.Bool = type.bool
row_type types row.Int = type.int
row_type types row.Str = type.string
row_type types (row.Address w) = type.address w
row_type types (row.Product a b) = type.product (type_in types a) (type_in types b)
row_type types (row.Sum a b) = type.sum (type_in types a) (type_in types b)
row_type types (row.Function a b) = type.function (type_in types a) (type_in types b)
row_type types (row.List a) = type.list (type_in types a)
row_type types (row.Cell a) = type.cell (type_in types a)
row_type types (row.Sham a) = type.sham (type_in types a)
row_type types (row.At a w) = type.at (type_in types a) w
