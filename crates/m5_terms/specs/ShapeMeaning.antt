-- The type of a shape, whose parts are seen as the types that they stand for.
use Rattle.m5_terms.specs.TypeExpression.{TypeExpression, unit, bool, int, string, address, product, sum, function, list, cell, sham, at}
use Rattle.m5_terms.specs.declared.types.Shape.{Shape}
use Rattle.m5_terms.specs.declared.types.Shape.TheVariants as shape

abbrev pub shape_meaning : Shape → TypeExpression
shape_meaning shape.Unit = unit
shape_meaning shape.Bool = bool
shape_meaning shape.Int = int
shape_meaning shape.Str = string
shape_meaning (shape.Prod a b) = product a b
shape_meaning (shape.Sum a b) = sum a b
shape_meaning (shape.List a) = list a
shape_meaning (shape.Fun a b) = function a b
shape_meaning (shape.Cell a) = cell a
shape_meaning (shape.At a w) = at a w
shape_meaning (shape.Sham a) = sham a
shape_meaning (shape.Addr w) = address w
