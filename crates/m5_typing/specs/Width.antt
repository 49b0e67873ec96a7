-- The width of a program.
use Rattle.std.specs.Prelude.{ℕ, ◌+◌, ◌≤◌, max, List, length, fold}
use Rattle.m5_terms.specs.Expression.{Expression, leaf, unary, binary, ternary, node_count}
use Rattle.m5_terms.specs.Substitution.{unary_binders, binary_binders, second_binders, third_binders}
use Rattle.m5_typing.specs.declared.functions.Function.{Function}
use Rattle.m5_typing.specs.Program.{ProgramTerm}

-- the greatest number, over a term's nodes, of the binders that the path to the node goes under
-- and of its moves into a part that is not the first
abbrev pub term_width : Expression → ℕ
term_width (leaf f) = 0
term_width (unary f a) = length (unary_binders f) + term_width a
term_width (binary f a b) = max (term_width a) (1 + (length (binary_binders f) + term_width b))
term_width (ternary f a b c) =
    max (term_width a) (max (1 + (length (second_binders f) + term_width b)) (1 + (length (third_binders f) + term_width c)))

-- a function's body begins under its parameter
abbrev pub functions_width : List Function → ℕ
functions_width functions = fold (λ widest g. max widest (1 + term_width g.body)) 0 functions

abbrev pub program_width : ProgramTerm → ℕ
program_width p = max (functions_width p.functions) (term_width p.main)

-- no term of a program has more nodes, so no sum on the way is too large
abbrev pub IsBounded : Expression → Type 0
IsBounded e = node_count e ≤ 16000
