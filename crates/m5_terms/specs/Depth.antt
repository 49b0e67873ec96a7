-- How deep a term is: the number of nodes from the root to the deepest leaf, both included.
use Rattle.std.specs.Prelude.{ℕ, ◌+◌, max}
use Rattle.m5_terms.specs.Expression.{Expression, leaf, unary, binary, ternary}

abbrev pub depth : Expression → ℕ
depth (leaf f) = 1
depth (unary f a) = 1 + depth a
depth (binary f a b) = 1 + max (depth a) (depth b)
depth (ternary f a b c) = 1 + max (depth a) (max (depth b) (depth c))
