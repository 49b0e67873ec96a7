-- The type of a form's whole, from those of its parts, as a total function: unit where nothing fits.
use Rattle.std.specs.Prelude.{Option, Some, None}
use Rattle.m5_terms.specs.TypeExpression as type
use Rattle.m5_terms.specs.TypeExpression.{TypeExpression}
use Rattle.m5_terms.specs.Primitives.{primitive_type}
use Rattle.m5_terms.specs.declared.types.World.{World}
use Rattle.m5_terms.specs.declared.types.World.TheVariants.{Any}
use Rattle.m5_terms.specs.declared.form.LeafForm.{LeafForm}
use Rattle.m5_terms.specs.declared.form.LeafForm.TheVariants as leaf_form
use Rattle.m5_terms.specs.declared.form.UnaryForm.{UnaryForm}
use Rattle.m5_terms.specs.declared.form.UnaryForm.TheVariants as unary_form
use Rattle.m5_terms.specs.declared.form.BinaryForm.{BinaryForm}
use Rattle.m5_terms.specs.declared.form.BinaryForm.TheVariants as binary_form
use Rattle.m5_typing.specs.Operators.{outcome}
use Rattle.m5_typing.specs.Context.{Bound, local, valid, Context, Setting, type_at}

abbrev pub bound_type : Option Bound → TypeExpression
bound_type None = type.unit
bound_type (Some (local w A)) = A
bound_type (Some (valid A)) = A

abbrev pub first_of : TypeExpression → TypeExpression
first_of (type.product A B) = A
first_of (type.sum A B) = A
first_of A = A

abbrev pub second_of : TypeExpression → TypeExpression
second_of (type.product A B) = B
second_of (type.sum A B) = B
second_of A = A

abbrev pub result_of : TypeExpression → TypeExpression
result_of (type.function A B) = B
result_of A = A

-- what is in a cell, a list, a sham, or held
abbrev pub content_of : TypeExpression → TypeExpression
content_of (type.cell A) = A
content_of (type.list A) = A
content_of (type.sham A) = A
content_of (type.at A v) = A
content_of A = A

-- the world of an address, or of what is held
abbrev pub place_of : TypeExpression → World
place_of (type.address v) = v
place_of (type.at A v) = v
place_of A = Any

abbrev pub cell_type : Option TypeExpression → TypeExpression
cell_type None = type.unit
cell_type (Some A) = type.cell A

abbrev pub leaf_type : Setting → Context → World → LeafForm → TypeExpression
leaf_type E G w (leaf_form.Var x) = bound_type (G x)
leaf_type E G w (leaf_form.Valid x) = bound_type (G x)
leaf_type E G w (leaf_form.Glob f) = bound_type (E.functions f)
leaf_type E G w (leaf_form.Extern p) = primitive_type p
leaf_type E G w leaf_form.Unit = type.unit
leaf_type E G w (leaf_form.Bool b) = type.bool
leaf_type E G w (leaf_form.Int n) = type.int
leaf_type E G w (leaf_form.Str s) = type.string
leaf_type E G w (leaf_form.Addr v) = type.address v
leaf_type E G w leaf_form.Here = type.address w
leaf_type E G w (leaf_form.Nil B) = type.list B
leaf_type E G w (leaf_form.CellAt v n) = cell_type (type_at (E.cells v) n)

abbrev pub unary_whole : UnaryForm → World → TypeExpression → TypeExpression
unary_whole (unary_form.Fn x A) w B = type.function A B
unary_whole (unary_form.Rec f x A C) w B = type.function A C
unary_whole unary_form.Fst w B = first_of B
unary_whole unary_form.Snd w B = second_of B
unary_whole (unary_form.Inl T) w B = T
unary_whole (unary_form.Inr T) w B = T
unary_whole unary_form.StrOf w B = type.string
unary_whole unary_form.Div w B = type.sum type.unit type.int
unary_whole unary_form.NewCell w B = type.cell B
unary_whole unary_form.Load w B = content_of B
unary_whole unary_form.Hold w B = type.at B w
unary_whole (unary_form.Held v) w B = type.at B v
unary_whole unary_form.Sham w B = type.sham B
unary_whole unary_form.Spawn w B = type.unit

abbrev pub binary_whole : BinaryForm → TypeExpression → TypeExpression → TypeExpression
binary_whole binary_form.Call A B = result_of A
binary_whole binary_form.Pair A B = type.product A B
binary_whole binary_form.Store A B = type.unit
binary_whole (binary_form.Binary o) A B = outcome o
binary_whole f A B = B
