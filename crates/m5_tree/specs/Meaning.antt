-- What an expression stands for, whose parts are seen as what they stand for.
use Rattle.std.specs.Prelude.{◌<◌, length}
use Rattle.m5_lex.specs.declared.place.Place.{Place}
use Rattle.m5_tree.specs.Syntax.{Syntax, leaf, unary, binary, ternary}
use Rattle.m5_tree.specs.Tuple.{tuple}
use Rattle.m5_tree.specs.declared.expr.Shape.{Shape}
use Rattle.m5_tree.specs.declared.expr.Shape.TheVariants as shape

abbrev pub meaning : Place → Shape → Syntax
meaning at (shape.Leaf f) = leaf at f
meaning at (shape.Unary f a) = unary at f a
meaning at (shape.Binary f a b) = binary at f a b
meaning at (shape.Ternary f a b c) = ternary at f a b c
meaning at (shape.Tuple parts) = tuple at parts.items

-- a tuple has two parts or more
abbrev pub IsWide : Shape → Type 0
IsWide (shape.Tuple parts) = 1 < length parts.items
IsWide _ = Unit {0}
