-- What decreases along the parts of a tuple.
use Rattle.std.proofs.Common.{ℕ, ◌+◌, ◌*◌, ◌<◌, ◌≤◌, List, [], ◌∷◌, length, arith}
use Rattle.m5_lex.specs.declared.place.Place.{Place}
use Rattle.m5_tree.specs.Syntax.{Syntax, leaf, unary, binary, ternary, node_count}
use Rattle.m5_tree.specs.Tuple.{pairs, tuple}
use Rattle.m5_tree.specs.declared.expr.Part.{Part}

-- a part without later ones is the expression itself, which is not smaller
abbrev pub spare : List Part → ℕ
spare [] = 3
spare (p ∷ ps) = 0

abbrev pub weight : Place → Syntax → List Part → ℕ
weight at e ps = 4 * node_count (pairs at e ps) + spare ps

some_node : (e : Syntax) → 1 ≤ node_count e
some_node (leaf at f) = omega arith
some_node (unary at f a) = omega arith
some_node (binary at f a b) = omega arith
some_node (ternary at f a b c) = omega arith

-- the later parts weigh less
pub later_weighs : (at : Place) (e : Syntax) (p : Part) (ps : List Part) → weight p.place p.expr ps < weight at e (p ∷ ps)
later_weighs at e p [] = omega (arith, some_node e)
later_weighs at e p (q ∷ ps) = omega (arith, some_node e)

-- the first part weighs less, also where it is the only one
pub part_weighs : (at : Place) (e : Syntax) (ps : List Part) → 4 * node_count e + 2 < weight at e ps
part_weighs at e [] = omega arith
part_weighs at e (p ∷ ps) = omega (arith, some_node (pairs p.place p.expr ps))

-- a wide tuple weighs as much as its parts
pub tuple_weighs : (at : Place) (p : Part) (ps : List Part) → 1 < length (p ∷ ps) → weight at p.expr ps < 4 * node_count (tuple at (p ∷ ps)) + 1
tuple_weighs at p [] h = absurd (omega arith)
tuple_weighs at p (q ∷ ps) h = omega arith
