-- Programs: declared functions and what is evaluated at home.
use Rattle.std.specs.Prelude.{ℕ, ◌+◌, ◌≤◌, Bool, ◌&&◌, IsTrue, Option, Some, None, List, [], ◌∷◌, ◌++◌, slice_get, sum_by, refl}
use Rattle.std.specs.List.{list_all}
use Rattle.m5_terms.specs.Expression.{Expression, leaf, unary, binary, ternary}
use Rattle.m5_terms.specs.TypeExpression.{TypeExpression, unit, function, type_node_count}
use Rattle.m5_terms.specs.InText.{leaf_type_nodes, unary_type_nodes, leaf_in_text, unary_in_text}
use Rattle.m5_terms.specs.declared.types.World.{World}
use Rattle.m5_terms.specs.declared.types.World.TheVariants.{Home, Any}
use Rattle.std.specs.Coded.{Coded, code_by, coded×, coded_list}
use Rattle.m5_terms.specs.Expression.{expression_code}
use Rattle.m5_typing.specs.declared.functions.Function.{Function}
use Rattle.m5_typing.specs.contracts.functions.Function as function_row
use Rattle.m5_typing.specs.Context.{Bound, local, valid, Setting, nothing, with}
use Rattle.m5_typing.specs.Rules.{IsSmall}
use Rattle.m5_typing.specs.Typing.{Typed}

-- a function that is declared at any is valid
abbrev pub bound_at : World → TypeExpression → Bound
bound_at Any A = valid A
bound_at w A = local w A

abbrev pub declared_type : Function → TypeExpression
declared_type g = function g.ty g.result

abbrev pub declared_bound : Option Function → Option Bound
declared_bound None = None
declared_bound (Some g) = Some (bound_at g.world (declared_type g))

-- a declared function's number is its place among the declarations, from 0; there are no cells yet
abbrev pub setting_of : List Function → Setting
setting_of functions = record { functions = λ f. declared_bound (slice_get functions f); cells = λ w. [] }

-- its body may use the functions up to itself
pub record FunctionTyped (known : List Function) (g : Function) : Type 0 where
  pub small : IsSmall (declared_type g)
  pub body : Typed (setting_of known) (with g.parameter (Some (local g.world g.ty)) nothing) g.world g.body g.result

abbrev pub FunctionsTyped : List Function → List Function → Type 0
FunctionsTyped known [] = Unit {0}
FunctionsTyped known (g ∷ rest) = FunctionTyped (known ++ g ∷ []) g × FunctionsTyped (known ++ g ∷ []) rest

-- a term's nodes and those of the types written in it
abbrev pub written_nodes : Expression → ℕ
written_nodes (leaf f) = 1 + leaf_type_nodes f
written_nodes (unary f a) = 1 + (unary_type_nodes f + written_nodes a)
written_nodes (binary f a b) = 1 + (written_nodes a + written_nodes b)
written_nodes (ternary f a b c) = 1 + (written_nodes a + (written_nodes b + written_nodes c))

abbrev pub function_nodes : Function → ℕ
function_nodes g = type_node_count g.ty + (type_node_count g.result + written_nodes g.body)

-- each of its forms is one that a text has
abbrev pub in_text : Expression → Bool
in_text (leaf f) = leaf_in_text f
in_text (unary f a) = unary_in_text f && in_text a
in_text (binary f a b) = in_text a && in_text b
in_text (ternary f a b c) = in_text a && (in_text b && in_text c)

-- a program as contracts see it
pub record ProgramTerm : Type 0 where
  pub functions : List Function
  pub main : Expression

abbrev pub program_code : Coded ProgramTerm
program_code =
    code_by (List Function × Expression) (coded× (coded_list function_row.the_row.coded) expression_code)
    (λ p. (p.functions, p.main)) (λ q. record { functions = q.0; main = q.1 }) (λ _. refl)

abbrev pub program_nodes : ProgramTerm → ℕ
program_nodes p = sum_by function_nodes p.functions + written_nodes p.main

-- what every program of the type `Program` keeps
pub record IsProgram (p : ProgramTerm) : Type 0 where
  pub functions : FunctionsTyped [] p.functions
  pub main : Typed (setting_of p.functions) nothing Home p.main unit
  pub size : program_nodes p ≤ 16000
  pub bodies_in_text : IsTrue (list_all (λ g. in_text g.body) p.functions)
  pub main_in_text : IsTrue (in_text p.main)
