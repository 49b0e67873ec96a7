-- Each part of an expression has fewer nodes than the expression.
use Rattle.std.specs.Prelude.{◌*◌, ◌≤◌, ◌<◌, max, List, [], ◌∷◌, length}
use Rattle.std.proofs.Common.{arith}
use denote.Param.Weighed.{most}
use Rattle.m5_lex.specs.declared.place.Place.{Place}
use Rattle.m5_tree.specs.Syntax.{Syntax, node_count}
use Rattle.m5_tree.specs.Tuple.{pairs, tuple}
use Rattle.m5_tree.specs.Meaning.{meaning, IsWide}
use Rattle.m5_tree.specs.declared.expr.Part.{Part}
use Rattle.m5_tree.specs.declared.expr.Shape.{Shape}
use Rattle.m5_tree.specs.declared.expr.Shape.TheVariants.{Leaf, Unary, Binary, Ternary, Tuple}
use Rattle.m5_tree.specs.declared.expr.Expr.TheDeep.{deep-Shape, deep-Part}

first_counts : (at : Place) (e : Syntax) (ps : List Part) → node_count e ≤ node_count (pairs at e ps)
first_counts at e [] = omega arith
first_counts at e (p ∷ ps) = omega arith

parts_fall : (at : Place) (e : Syntax) (ps : List Part) → most (λ p. deep-Part p) ps ≤ 2 * node_count (pairs at e ps)
parts_fall at e [] = omega arith
parts_fall at e (p ∷ ps) = omega (arith, parts_fall p.place p.expr ps, first_counts p.place p.expr ps)

tuple_falls : (at : Place) (ps : List Part) → 1 < length ps → most (λ p. deep-Part p) ps ≤ 2 * node_count (tuple at ps)
tuple_falls at [] h = absurd (omega arith)
tuple_falls at (p ∷ []) h = absurd (omega arith)
tuple_falls at (p ∷ q ∷ ps) h = omega (arith, parts_fall at p.expr (q ∷ ps))

pub shape_falls : (at : Place) (s : Shape) → IsWide s → max (deep-Shape s) 0 ≤ 2 * node_count (meaning at s)
shape_falls at (Leaf f) h = omega arith
shape_falls at (Unary f a) h = omega arith
shape_falls at (Binary f a b) h = omega arith
shape_falls at (Ternary f a b c) h = omega arith
shape_falls at (Tuple parts) h = omega (arith, tuple_falls at parts.items h)
