-- What a program's parts make of the whole.
use Rattle.std.proofs.Common.{◌≡◌, ℕ, zero, suc, ◌+◌, ◌≤◌, List, [], ◌++◌, Option, None, length, refl, subst, ap, sym, ◌∙◌, arith}
use Rattle.std.proofs.lemmas.List.{length-append}
use Rattle.m5_lex.specs.declared.place.Place.{Place}
use Rattle.m5_tree.specs.Syntax.{Syntax}
use Rattle.m5_tree.specs.declared.tree.Function as trees
use Rattle.m5_tree.specs.declared.tree.Program as programs
use Rattle.m5_scope.specs.Places.{places, extern_lists, function_lists, program_places}
use Rattle.m5_scope.specs.Meaning.{Scope, known, nothing_known}
use Rattle.m5_raw.specs.Resolved.{Resolved}
use Rattle.m5_terms.specs.Outcome.{found, fault, and_then}
use Rattle.m5_scope.specs.Resolving.{Outcome, IsFault, binders, resolved}
use Rattle.m5_raw.specs.RawTerm.{RawTerm, IsRaw}
use Rattle.m5_raw.specs.declared.function.Function.{Function}
use Rattle.m5_scope.specs.declared.end.ScopeEnd.{ScopeEnd}
use Rattle.m5_scope.specs.declared.meaning.Meaning.{Meaning}
use Rattle.m5_scope.specs.Program.{externs_known, list_binders, main_resolved, functions_resolved, program_resolved}
use Rattle.m5_scope.proofs.Counting.{Holds}
use Rattle.m5_scope.proofs.Whole.{IsWhole, functions_whole, binders_few, list_binders_few}

nothing_at : (y : ℕ) → known [] y ≡ None
nothing_at zero = refl
nothing_at (suc y) = refl

pub nothing_in : (t : List (Option Meaning)) → t ≡ [] → known t ≡ nothing_known
nothing_in t e = ap known e ∙ (λ i y. nothing_at y i)

-- the whole keeps to the limits
pub raw_of : (gs : List Function) (s t : Scope) (n m : ℕ) (fs : List trees.Function) (at : Place) (e : Syntax) (x : Resolved)
    → functions_resolved [] s n fs at e ≡ main_resolved gs t m at e → resolved t m e ≡ found x → length (function_lists fs) + length (places e) ≤ 16000
    → IsRaw (record { functions = gs; place = at; main = x })
raw_of gs s t n m fs at e x h k l =
    let r : RawTerm = record { functions = gs; place = at; main = x } in
    let same : functions_resolved [] s n fs at e ≡ found r = h ∙ ap (λ o. and_then o (λ y. found (record { functions = gs; place = at; main = y }))) k in
    let whole : Holds (IsWhole (0 + (length (function_lists fs) + length (places e)))) (found r) =
    subst (λ o. Holds (IsWhole (0 + (length (function_lists fs) + length (places e)))) o) same (functions_whole [] s n fs at e refl) in
    record { size = omega (arith, whole.nodes, l); bodies_in_text = whole.bodies; main_in_text = whole.main }

-- few nodes have few binders
pub program_few : (p : programs.Program) → length (program_places p) ≤ 16000 → list_binders p.declarations.functions + binders p.body ≤ 32000
program_few p h =
    omega (
      arith,
      h,
      list_binders_few p.declarations.functions,
      binders_few p.body,
      length-append (extern_lists p.declarations.externs) (function_lists p.declarations.functions ++ places p.body),
      length-append (function_lists p.declarations.functions) (places p.body),
    )

pub program_sizes : (p : programs.Program) → length (program_places p) ≤ 16000 → length (function_lists p.declarations.functions) + length (places p.body) ≤ 16000
program_sizes p h =
    omega (
      arith,
      h,
      length-append (extern_lists p.declarations.externs) (function_lists p.declarations.functions ++ places p.body),
      length-append (function_lists p.declarations.functions) (places p.body),
    )

-- what the externs make of a program
abbrev with_externs : programs.Program → Outcome Scope → Outcome RawTerm
with_externs p o = and_then o (λ s. functions_resolved [] s 0 p.declarations.functions p.main p.body)

externs_first : (names : List (List ℕ)) (p : programs.Program) (t : Scope) (o : Outcome Scope) → t ≡ nothing_known → externs_known names t p.declarations.externs ≡ o → program_resolved names p ≡ with_externs p o
externs_first names p t o none h =
    ap (λ (u : Scope). with_externs p (externs_known names u p.declarations.externs)) (sym none) ∙ ap (λ (q : Outcome Scope). with_externs p q) h

pub program_externs_fault : (names : List (List ℕ)) (p : programs.Program) (t : Scope) (err : ScopeEnd) → t ≡ nothing_known → IsFault (externs_known names t p.declarations.externs) err → IsFault (program_resolved names p) err
program_externs_fault names p t err none h = λ other. externs_first names p t (fault err) none (h other)

pub program_functions_fault : (names : List (List ℕ)) (p : programs.Program) (t s : Scope) (err : ScopeEnd) → t ≡ nothing_known → externs_known names t p.declarations.externs ≡ found s
    → ((at : Place) (e : Syntax) → IsFault (functions_resolved [] s 0 p.declarations.functions at e) err) → IsFault (program_resolved names p) err
program_functions_fault names p t s err none h bad = λ other. externs_first names p t (found s) none h ∙ bad p.main p.body other

-- what the main term makes of a program whose functions are resolved
abbrev with_functions : programs.Program → List Function → Outcome Resolved → Outcome RawTerm
with_functions p gs o = and_then o (λ x. found (record { functions = gs; place = p.main; main = x }))

functions_first : (names : List (List ℕ)) (p : programs.Program) (t s u : Scope) (n : ℕ) (gs : List Function) (o : Outcome Resolved) → t ≡ nothing_known → externs_known names t p.declarations.externs ≡ found s
    → ((at : Place) (e : Syntax) → functions_resolved [] s 0 p.declarations.functions at e ≡ main_resolved gs u n at e) → resolved u n p.body ≡ o → program_resolved names p ≡ with_functions p gs o
functions_first names p t s u n gs o none h more k =
    externs_first names p t (found s) none h ∙ more p.main p.body ∙ ap (λ (q : Outcome Resolved). with_functions p gs q) k

pub program_main : (names : List (List ℕ)) (p : programs.Program) (t s u : Scope) (n : ℕ) (gs : List Function) (x : Resolved) → t ≡ nothing_known → externs_known names t p.declarations.externs ≡ found s
    → ((at : Place) (e : Syntax) → functions_resolved [] s 0 p.declarations.functions at e ≡ main_resolved gs u n at e) → resolved u n p.body ≡ found x → program_resolved names p ≡ found (record { functions = gs; place = p.main; main = x })
program_main names p t s u n gs x none h more k = functions_first names p t s u n gs (found x) none h more k

pub program_main_fault : (names : List (List ℕ)) (p : programs.Program) (t s u : Scope) (n : ℕ) (gs : List Function) (err : ScopeEnd) → t ≡ nothing_known → externs_known names t p.declarations.externs ≡ found s
    → ((at : Place) (e : Syntax) → functions_resolved [] s 0 p.declarations.functions at e ≡ main_resolved gs u n at e) → IsFault (resolved u n p.body) err → IsFault (program_resolved names p) err
program_main_fault names p t s u n gs err none h more k = λ other. functions_first names p t s u n gs (fault err) none h more (k other)
