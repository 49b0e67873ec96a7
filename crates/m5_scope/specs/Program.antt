-- The resolved program of a tree, or the first fault in it.
use Rattle.std.specs.Prelude.{ℕ, ◌+◌, Bool, false, ◌&&◌, if◌then◌else◌, Option, Some, None, List, [], ◌∷◌, ◌++◌, length, slice_get}
use Rattle.std.specs.Str.{bytes_eq}
use Rattle.m5_lex.specs.declared.place.Place.{Place}
use Rattle.m5_terms.specs.TypeExpression.{TypeExpression, same_type, same_world}
use Rattle.m5_terms.specs.Primitives.{primitives, primitive_name, primitive_type, primitive_world}
use Rattle.m5_terms.specs.declared.types.World.{World}
use Rattle.m5_terms.specs.declared.types.Primitive.{Primitive}
use Rattle.m5_tree.specs.Syntax.{Syntax}
use Rattle.m5_tree.specs.declared.tree.Extern as externs
use Rattle.m5_tree.specs.declared.tree.Function as functions
use Rattle.m5_tree.specs.declared.tree.Program as trees
use Rattle.m5_scope.specs.Written.{type_of}
use Rattle.m5_scope.specs.Places.{program_places}
use Rattle.m5_scope.specs.Meaning.{Scope, hides, nothing_known}
use Rattle.m5_terms.specs.Outcome.{found, fault, and_then}
use Rattle.m5_scope.specs.Resolving.{Outcome, binders, resolved}
use Rattle.m5_raw.specs.RawTerm.{RawTerm}
use Rattle.m5_scope.specs.declared.end.ScopeEnd.TheVariants.{TooMany, Repeated, BadExtern}
use Rattle.m5_raw.specs.declared.function.Function.{Function}
use Rattle.m5_scope.specs.declared.meaning.Meaning.{Meaning}
use Rattle.m5_scope.specs.declared.meaning.Meaning.TheVariants.{Var, Glob, Extern}

-- an extern has exactly the name, the type and the world of a primitive
abbrev pub declares : Option (List ℕ) → TypeExpression → World → Primitive → Bool
declares None ty w p = false
declares (Some name) ty w p = bytes_eq name (primitive_name p) && (same_type ty (primitive_type p) && same_world w (primitive_world p))

abbrev pub first_that : (Primitive → Bool) → List Primitive → Option Primitive
first_that test [] = None
first_that test (p ∷ ps) = if test p then Some p else first_that test ps

unfoldable pub primitive_of : Option (List ℕ) → TypeExpression → World → Option Primitive
primitive_of name ty w = first_that (declares name ty w) primitives

-- what is declared outside expressions is declared once
abbrev pub once : {A : Type 0} → Place → Option Meaning → Outcome A → Outcome A
once at None o = o
once at (Some m) o = fault (Repeated at)

abbrev pub made_known : Scope → externs.Extern → Option Primitive → Outcome Scope
made_known s x None = fault (BadExtern x.place)
made_known s x (Some p) = found (hides s x.name (Extern p))

abbrev pub externs_known : List (List ℕ) → Scope → List externs.Extern → Outcome Scope
externs_known names s [] = found s
externs_known names s (x ∷ xs) =
    and_then (once x.place (s x.name) (made_known s x (primitive_of (slice_get names x.name) (type_of x.ty) x.world)))
    (λ t. externs_known names t xs)

-- inside a function it is known itself, and its parameter hides it
abbrev pub function_resolved : Scope → ℕ → ℕ → functions.Function → Outcome Function
function_resolved s number n g =
    once g.name_place (s g.name)
    (and_then (resolved (hides (hides s g.name (Glob number)) g.parameter (Var n)) (n + 1) g.body)
    (λ e. found (record { place = g.place; world = g.world; parameter = n; ty = type_of g.ty; result = type_of g.result; body = e })))

-- the binders of functions, their parameters among them
abbrev pub list_binders : List functions.Function → ℕ
list_binders [] = 0
list_binders (g ∷ gs) = 1 + binders g.body + list_binders gs

abbrev pub main_resolved : List Function → Scope → ℕ → Place → Syntax → Outcome RawTerm
main_resolved done s n at e = and_then (resolved s n e) (λ x. found (record { functions = done; place = at; main = x }))

-- a function's number is how many were declared before it
abbrev pub functions_resolved : List Function → Scope → ℕ → List functions.Function → Place → Syntax → Outcome RawTerm
functions_resolved done s n [] at e = main_resolved done s n at e
functions_resolved done s n (g ∷ gs) at e =
    and_then (function_resolved s (length done) n g)
    (λ h. functions_resolved (done ++ h ∷ []) (hides s g.name (Glob (length done))) (n + (1 + binders g.body)) gs at e)

abbrev pub program_resolved : List (List ℕ) → trees.Program → Outcome RawTerm
program_resolved names p =
    and_then (externs_known names nothing_known p.declarations.externs)
    (λ s. functions_resolved [] s 0 p.declarations.functions p.main p.body)

-- no node is past the limit
abbrev pub unless_past : Option Place → Outcome RawTerm → Outcome RawTerm
unless_past None o = o
unless_past (Some at) o = fault (TooMany at)

-- the limit is looked at first: the place of the first node past 16,000 nodes
abbrev pub tree_resolved : List (List ℕ) → trees.Program → Outcome RawTerm
tree_resolved names p = unless_past (slice_get (program_places p) 16000) (program_resolved names p)
