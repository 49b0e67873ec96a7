-- The nodes of a type.
use Rattle.std.proofs.Common.{◌≤◌, arith}
use Rattle.m5_terms.specs.TypeExpression.{TypeExpression, type_node_count, product, sum, function, list, cell, sham, at}

pub type_some : (A : TypeExpression) → 1 ≤ type_node_count A
type_some (product A B) = omega arith
type_some (sum A B) = omega arith
type_some (function A B) = omega arith
type_some (list A) = omega arith
type_some (cell A) = omega arith
type_some (sham A) = omega arith
type_some (at A w) = omega arith
type_some _ = omega arith
