-- The type of a term, or the first fault in it.
use Rattle.std.specs.Prelude.{ℕ, nat_le, if◌then◌else◌, Option, Some, None, List, [], ◌∷◌, ◌++◌, slice_get}
use Rattle.m5_lex.specs.declared.place.Place.{Place}
use Rattle.m5_terms.specs.TypeExpression.{TypeExpression, unit, function, same_type, type_node_count}
use Rattle.m5_terms.specs.declared.types.World.{World}
use Rattle.m5_terms.specs.declared.types.World.TheVariants.{Home}
use Rattle.m5_typing.specs.Context.{Bound, local, Context, nothing, with}
use Rattle.m5_typing.specs.Typing.{part_context}
use Rattle.m5_typing.specs.Value.{is_value_form}
use Rattle.m5_typing.specs.Program.{ProgramTerm, bound_at}
use Rattle.m5_raw.specs.Resolved.{Resolved, leaf, unary, binary, ternary}
use Rattle.m5_raw.specs.RawTerm.{RawTerm}
use Rattle.m5_raw.specs.declared.function.Function.{Function}
use Rattle.m5_elaborate.specs.declared.end.Kind.TheVariants.{TooLarge}
use Rattle.m5_terms.specs.Outcome.{found, and_then}
use Rattle.m5_elaborate.specs.Outcome.{Outcome, refused}
use Rattle.m5_elaborate.specs.Names.{under}
use Rattle.m5_elaborate.specs.Parts.{if_same}
use Rattle.m5_elaborate.specs.Erased.{erased, erased_program}
use Rattle.m5_elaborate.specs.Leaves.{leaf_type}
use Rattle.m5_elaborate.specs.Synthesis.{unary_world, unary_binding, unary_type, second_part, binary_type, arms, ternary_type}

-- a type has at most 1,024 nodes
abbrev pub limited_type : Place → TypeExpression → Outcome TypeExpression
limited_type p A = if nat_le (type_node_count A) 1024 then found A else refused TooLarge p

-- the check on the size comes last
abbrev pub limited : Place → Outcome TypeExpression → Outcome TypeExpression
limited p o = and_then o (limited_type p)

-- parts from left to right, each where the form puts it; then the form's own checks, then the size
abbrev pub checked : (ℕ → Option Bound) → Context → World → Resolved → Outcome TypeExpression
checked F G w (leaf p f) = limited p (leaf_type F G w p f)
checked F G w (unary p f a) =
    limited p (and_then (checked F (under (unary_binding f w) (part_context f G)) (unary_world f w) a) (unary_type f p w (is_value_form (erased a))))
checked F G w (binary p f a b) =
    limited p (and_then (checked F G w a)
    (λ A. and_then (second_part f p w A)
    (λ e. and_then (checked F (under e.binding G) e.world b) (binary_type f p A))))
checked F G w (ternary p f a b c) =
    limited p (and_then (checked F G w a)
    (λ A. and_then (arms f p w A)
    (λ e. and_then (checked F (under e.second G) w b)
    (λ B. and_then (checked F (under e.third G) w c) (ternary_type f p A B)))))

-- a declared function's number is its place among the declarations
abbrev pub declared_bound : Option Function → Option Bound
declared_bound None = None
declared_bound (Some g) = Some (bound_at g.world (function g.ty g.result))

-- the bound of each declared function
abbrev pub signatures : List Function → ℕ → Option Bound
signatures known = λ f. declared_bound (slice_get known f)

-- the size of its type, then its body, which may use the functions up to itself, then the type of the body
abbrev pub function_checked : List Function → Function → Outcome TypeExpression
function_checked known g =
    and_then (limited_type g.place (function g.ty g.result))
    (λ T. and_then (checked (signatures known) (with g.parameter (Some (local g.world g.ty)) nothing) g.world g.body)
    (λ B. if_same (same_type B g.result) g.place T))

-- the main term is unit at home
abbrev pub main_checked : RawTerm → Outcome TypeExpression
main_checked r = and_then (checked (signatures r.functions) nothing Home r.main) (λ A. if_same (same_type A unit) r.place A)

-- the functions in their order, and then the main term
abbrev pub rest_elaborated : List Function → List Function → RawTerm → Outcome ProgramTerm
rest_elaborated known [] r = and_then (main_checked r) (λ A. found (erased_program r))
rest_elaborated known (g ∷ gs) r = and_then (function_checked (known ++ g ∷ []) g) (λ T. rest_elaborated (known ++ g ∷ []) gs r)

-- a program without its places, or its first fault
abbrev pub elaborated : RawTerm → Outcome ProgramTerm
elaborated r = rest_elaborated [] r.functions r
