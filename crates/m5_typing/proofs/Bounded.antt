-- No term of a program has more nodes than the program.
use Rattle.std.proofs.Common.{ℕ, ◌≤◌, ◌<◌, List, length, slice_index_or, sum_by, arith}
use Rattle.std.proofs.lemmas.List.Sums.{get_or-le-sum_by}
use Rattle.m5_terms.specs.Expression.{Expression, leaf, unary, binary, ternary, node_count}
use Rattle.m5_typing.specs.declared.functions.Function.{Function}
use Rattle.m5_typing.specs.Program.{ProgramTerm, IsProgram, written_nodes, function_nodes}
use Rattle.m5_typing.specs.Width.{IsBounded}

nodes-written : (e : Expression) → node_count e ≤ written_nodes e
nodes-written (leaf f) = omega arith
nodes-written (unary f a) = omega (arith, nodes-written a)
nodes-written (binary f a b) = omega (arith, nodes-written a, nodes-written b)
nodes-written (ternary f a b c) = omega (arith, nodes-written a, nodes-written b, nodes-written c)

body-within : (fs : List Function) (k : ℕ) (d : Function) → k < length fs → function_nodes (slice_index_or fs k d) ≤ sum_by function_nodes fs
body-within fs k d h = get_or-le-sum_by function_nodes fs k d h

pub main-bounded : (p : ProgramTerm) → IsProgram p → IsBounded p.main
main-bounded p h = omega (arith, nodes-written p.main, h.size)

pub body-bounded : (p : ProgramTerm) → IsProgram p → (k : ℕ) (d : Function) → k < length p.functions → IsBounded (slice_index_or p.functions k d).body
body-bounded p h k d i = omega (arith, body-within p.functions k d i, nodes-written (slice_index_or p.functions k d).body, h.size)
