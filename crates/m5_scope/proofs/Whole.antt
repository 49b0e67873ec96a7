-- A resolved program is one that a text has, and has the nodes of the tree without those of externs.
use Rattle.std.proofs.Common.{◌≡◌, ℕ, ◌+◌, ◌*◌, ◌≤◌, IsTrue, Option, Some, None, List, [], ◌∷◌, ◌++◌, length, sum_by, subst, arith}
use Rattle.std.specs.List.{list_all}
use Rattle.std.proofs.lemmas.List.{length-append}
use Rattle.std.proofs.lemmas.List.Sums.{sum_by-append}
use Rattle.m5_lex.specs.declared.place.Place.{Place}
use Rattle.m5_tree.specs.TypeSyntax as types
use Rattle.m5_tree.specs.Syntax as syntax
use Rattle.m5_tree.specs.declared.form.UnaryForm as tree_unary
use Rattle.m5_tree.specs.declared.form.UnaryForm.TheVariants as unary_tree
use Rattle.m5_tree.specs.declared.form.BinaryForm as tree_binary
use Rattle.m5_tree.specs.declared.form.BinaryForm.TheVariants as binary_tree
use Rattle.m5_tree.specs.declared.form.TernaryForm as tree_ternary
use Rattle.m5_tree.specs.declared.form.TernaryForm.TheVariants as ternary_tree
use Rattle.m5_tree.specs.declared.tree.Function as functions
use Rattle.m5_scope.specs.Places.{type_places, unary_places, places, function_places, function_lists}
use Rattle.m5_scope.specs.Forms.{unary_count, binary_count, second_count, third_count}
use Rattle.m5_raw.specs.InText.{in_text}
use Rattle.m5_scope.specs.Meaning.{Scope, hides}
use Rattle.m5_scope.specs.declared.meaning.Meaning.{Meaning}
use Rattle.m5_scope.specs.declared.meaning.Meaning.TheVariants.{Var, Glob}
use Rattle.m5_scope.specs.Resolving.{Outcome, binders}
use Rattle.m5_raw.specs.declared.function.Function.{Function}
use Rattle.m5_raw.specs.RawTerm.{RawTerm, function_nodes, raw_nodes}
use Rattle.m5_scope.specs.Program.{once, function_resolved, functions_resolved, list_binders}
use Rattle.m5_scope.proofs.Counting.{type_counts, Holds, holds_then, IsWritten, resolved_written}

unary_few : (f : tree_unary.UnaryForm) → unary_count f ≤ 2
unary_few (unary_tree.Fn x t) = omega arith
unary_few (unary_tree.Rec f x t u) = omega arith
unary_few _ = omega arith

binary_few : (f : tree_binary.BinaryForm) → binary_count f ≤ 2
binary_few (binary_tree.Val x) = omega arith
binary_few (binary_tree.Put x) = omega arith
binary_few (binary_tree.Leta x) = omega arith
binary_few (binary_tree.Lets x) = omega arith
binary_few _ = omega arith

ternary_few : (f : tree_ternary.TernaryForm) → second_count f + third_count f ≤ 2
ternary_few ternary_tree.If = omega arith
ternary_few (ternary_tree.CaseSum x y) = omega arith
ternary_few (ternary_tree.CaseList x y) = omega arith

-- a node has at most two binders
pub binders_few : (e : syntax.Syntax) → binders e ≤ 2 * length (places e)
binders_few (syntax.leaf at f) = omega arith
binders_few (syntax.unary at f a) = omega (arith, unary_few f, binders_few a, length-append (unary_places f) (places a))
binders_few (syntax.binary at f a b) = omega (arith, binary_few f, binders_few a, binders_few b, length-append (places a) (places b))
binders_few (syntax.ternary at f a b c) = omega (arith, ternary_few f, binders_few a, binders_few b, binders_few c, length-append (places a) (places b ++ places c), length-append (places b) (places c))

body_some : (e : syntax.Syntax) → 1 ≤ length (places e)
body_some (syntax.leaf at f) = omega arith
body_some (syntax.unary at f a) = omega arith
body_some (syntax.binary at f a b) = omega arith
body_some (syntax.ternary at f a b c) = omega arith

type_some : (t : types.TypeSyntax) → 1 ≤ length (type_places t)
type_some (types.plain at f) = omega arith
type_some (types.wrapped at f a) = omega arith
type_some (types.joined at f a b) = omega arith

function_length : (g : functions.Function) → length (function_places g) ≡ length (type_places g.ty) + (length (type_places g.result) + length (places g.body))
function_length g = omega (arith, length-append (type_places g.ty) (type_places g.result ++ places g.body), length-append (type_places g.result) (places g.body))

pub list_binders_few : (gs : List functions.Function) → list_binders gs ≤ 2 * length (function_lists gs)
list_binders_few [] = omega arith
list_binders_few (g ∷ gs) = omega (arith, binders_few g.body, type_some g.ty, function_length g, list_binders_few gs, length-append (function_places g) (function_lists gs))

-- the functions so far and what is still to be resolved
pub record IsWhole (count : ℕ) (r : RawTerm) : Type 0 where
  pub nodes : raw_nodes r ≡ count
  pub bodies : IsTrue (list_all (λ g. in_text g.body) r.functions)
  pub main : IsTrue (in_text r.main)

pub record IsSound (count : ℕ) (g : Function) : Type 0 where
  pub nodes : function_nodes g ≡ count
  pub body : IsTrue (in_text g.body)

pub once_holds : {A : Type 0} (P : A → Type 0) (at : Place) (m : Option Meaning) (o : Outcome A) → Holds P o → Holds P (once at m o)
once_holds P at None o h = h
once_holds P at (Some m) o h = tt

function_sound : (s : Scope) (number n : ℕ) (g : functions.Function) → Holds (IsSound (length (function_places g))) (function_resolved s number n g)
function_sound s number n g =
    once_holds (IsSound (length (function_places g))) g.name_place (s g.name) _
    (holds_then (IsWritten (length (places g.body))) (IsSound (length (function_places g))) _ _
    (resolved_written (hides (hides s g.name (Glob number)) g.parameter (Var n)) (n + 1) g.body)
    (λ e h. record { nodes = omega (arith, h.nodes, type_counts g.ty, type_counts g.result, function_length g); body = h.text }))

as_many : (a b : ℕ) (o : Outcome RawTerm) → a ≡ b → Holds (IsWhole a) o → Holds (IsWhole b) o
as_many a b o e h = subst (λ c. Holds (IsWhole c) o) e h

bodies_more : (done : List Function) (x : Function) → IsTrue (list_all (λ g. in_text g.body) done) → IsTrue (in_text x.body) → IsTrue (list_all (λ g. in_text g.body) (done ++ x ∷ []))
bodies_more [] x h k = grind (arith, k)
bodies_more (y ∷ done) x h k = grind (arith, bodies_more done x, h, k)

pub functions_whole : (done : List Function) (s : Scope) (n : ℕ) (gs : List functions.Function) (at : Place) (e : syntax.Syntax) → IsTrue (list_all (λ g. in_text g.body) done)
    → Holds (IsWhole (sum_by function_nodes done + (length (function_lists gs) + length (places e)))) (functions_resolved done s n gs at e)
functions_whole done s n [] at e h =
    holds_then (IsWritten (length (places e))) (IsWhole (sum_by function_nodes done + (0 + length (places e)))) _ _ (resolved_written s n e)
    (λ x k. record { nodes = omega (arith, k.nodes); bodies = h; main = k.text })
functions_whole done s n (g ∷ gs) at e h =
    holds_then (IsSound (length (function_places g))) (IsWhole (sum_by function_nodes done + (length (function_lists (g ∷ gs)) + length (places e)))) _ _
    (function_sound s (length done) n g)
    (λ x k. as_many (sum_by function_nodes (done ++ x ∷ []) + (length (function_lists gs) + length (places e))) _ _
    (omega (arith, k.nodes, sum_by-append function_nodes done (x ∷ []), length-append (function_places g) (function_lists gs)))
    (functions_whole (done ++ x ∷ []) (hides s g.name (Glob (length done))) (n + (1 + binders g.body)) gs at e (bodies_more done x h k.body)))
