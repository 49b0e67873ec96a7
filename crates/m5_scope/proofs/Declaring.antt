-- Externs and functions are made known one after the other.
use Rattle.std.proofs.Common.{◌≡◌, ℕ, ◌+◌, true, false, Option, Some, None, List, [], ◌∷◌, ◌++◌, length, refl, ap, sym, ◌∙◌}
use Rattle.std.specs.Prelude.{is_some}
use Rattle.m5_lex.specs.declared.place.Place.{Place}
use Rattle.m5_tree.specs.Syntax.{Syntax}
use Rattle.m5_tree.specs.declared.tree.Function as functions
use Rattle.m5_raw.specs.Resolved.{Resolved}
use Rattle.m5_raw.specs.declared.function.Function.{Function}
use Rattle.m5_scope.specs.Written.{type_of}
use Rattle.m5_scope.specs.Meaning.{Scope, hides}
use Rattle.m5_terms.specs.Outcome.{found, fault, and_then}
use Rattle.m5_scope.specs.Resolving.{Outcome, IsFault, binders, resolved}
use Rattle.m5_scope.specs.Program.{once, function_resolved, functions_resolved}
use Rattle.m5_scope.specs.declared.meaning.Meaning.{Meaning}
use Rattle.m5_scope.specs.declared.meaning.Meaning.TheVariants.{Var, Glob}
use Rattle.m5_scope.specs.declared.end.ScopeEnd.{ScopeEnd}
use Rattle.m5_scope.specs.declared.end.ScopeEnd.TheVariants.{Repeated}

pub once_none : {A : Type 0} (at : Place) (m : Option Meaning) (o : Outcome A) → is_some m ≡ false → once at m o ≡ o
once_none at None o h = refl
once_none at (Some m) o h = cc

pub once_some : {A : Type 0} (at : Place) (m : Option Meaning) (o : Outcome A) → is_some m ≡ true → once at m o ≡ fault (Repeated at)
once_some at None o h = cc
once_some at (Some m) o h = refl

-- what a body in its scope makes of the function
abbrev with_body : ℕ → functions.Function → Outcome Resolved → Outcome Function
with_body n g o = and_then o (λ e. found (record { place = g.place; world = g.world; parameter = n; ty = type_of g.ty; result = type_of g.result; body = e }))

abbrev in_scope : Scope → ℕ → functions.Function → Outcome Resolved
in_scope s n g = resolved (hides s g.parameter (Var n)) (n + 1) g.body

-- a function that nothing else has the name of is what its body makes of it
pub function_once : (s inside : Scope) (number n : ℕ) (g : functions.Function) (o : Outcome Resolved) → is_some (s g.name) ≡ false → inside ≡ hides s g.name (Glob number)
    → resolved (hides inside g.parameter (Var n)) (n + 1) g.body ≡ o → function_resolved s number n g ≡ with_body n g o
function_once s inside number n g o free same h =
    once_none g.name_place (s g.name) (with_body n g (in_scope (hides s g.name (Glob number)) n g)) free
    ∙ ap (λ (t : Scope). with_body n g (in_scope t n g)) (sym same)
    ∙ ap (λ (q : Outcome Resolved). with_body n g q) h

pub function_found : (s inside : Scope) (number n : ℕ) (g : functions.Function) (e : Resolved) → is_some (s g.name) ≡ false → inside ≡ hides s g.name (Glob number)
    → resolved (hides inside g.parameter (Var n)) (n + 1) g.body ≡ found e
    → function_resolved s number n g ≡ found (record { place = g.place; world = g.world; parameter = n; ty = type_of g.ty; result = type_of g.result; body = e })
function_found s inside number n g e free same h = function_once s inside number n g (found e) free same h

pub function_fault : (s inside : Scope) (number n : ℕ) (g : functions.Function) (err : ScopeEnd) → is_some (s g.name) ≡ false → inside ≡ hides s g.name (Glob number)
    → IsFault (resolved (hides inside g.parameter (Var n)) (n + 1) g.body) err → IsFault (function_resolved s number n g) err
function_fault s inside number n g err free same h = λ other. function_once s inside number n g (fault err) free same (h other)

pub function_repeated : (s : Scope) (number n : ℕ) (g : functions.Function) → is_some (s g.name) ≡ true → function_resolved s number n g ≡ fault (Repeated g.name_place)
function_repeated s number n g taken = once_some g.name_place (s g.name) (with_body n g (in_scope (hides s g.name (Glob number)) n g)) taken

-- one function more
pub functions_next : (done : List Function) (s t : Scope) (number n : ℕ) (g : functions.Function) (gs : List functions.Function) (h : Function) (at : Place) (e : Syntax)
    → number ≡ length done → function_resolved s number n g ≡ found h → t ≡ hides s g.name (Glob number)
    → functions_resolved done s n (g ∷ gs) at e ≡ functions_resolved (done ++ h ∷ []) t (n + (1 + binders g.body)) gs at e
functions_next done s t number n g gs h at e count answer same =
    ap (λ o. and_then o (λ k. functions_resolved (done ++ k ∷ []) (hides s g.name (Glob (length done))) (n + (1 + binders g.body)) gs at e))
    (ap (λ i. function_resolved s i n g) (sym count) ∙ answer)
    ∙ ap (λ i. functions_resolved (done ++ h ∷ []) (hides s g.name (Glob i)) (n + (1 + binders g.body)) gs at e) (sym count)
    ∙ ap (λ (u : Scope). functions_resolved (done ++ h ∷ []) u (n + (1 + binders g.body)) gs at e) (sym same)

pub functions_fault : (done : List Function) (s : Scope) (number n : ℕ) (g : functions.Function) (gs : List functions.Function) (err : ScopeEnd) (at : Place) (e : Syntax)
    → number ≡ length done → IsFault (function_resolved s number n g) err → IsFault (functions_resolved done s n (g ∷ gs) at e) err
functions_fault done s number n g gs err at e count h = λ other.
    ap (λ (o : Outcome Function). and_then o (λ k. functions_resolved (done ++ k ∷ []) (hides s g.name (Glob (length done))) (n + (1 + binders g.body)) gs at e))
    (ap (λ i. function_resolved s i n g) (sym count) ∙ h other)
