-- What a written type stands for, whose parts are seen as what they stand for.
use Rattle.m5_lex.specs.declared.place.Place.{Place}
use Rattle.m5_tree.specs.TypeSyntax.{TypeSyntax, plain, wrapped, joined}
use Rattle.m5_tree.specs.declared.type_expr.TypeShape.{TypeShape}
use Rattle.m5_tree.specs.declared.type_expr.TypeShape.TheVariants as shape

abbrev pub type_meaning : Place → TypeShape → TypeSyntax
type_meaning at (shape.Plain f) = plain at f
type_meaning at (shape.Wrap f a) = wrapped at f a
type_meaning at (shape.Join f a b) = joined at f a b
