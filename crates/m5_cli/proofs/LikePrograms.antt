-- Programs that differ in their places alone: their names are resolved and their types found alike.
use Rattle.std.proofs.Common.{◌≡◌, ℕ, zero, suc, ◌+◌, ◌≤◌, Option, Some, None, ◌&&◌, IsTrue, List, [], ◌∷◌, ◌++◌, length, refl, sym, ◌∙◌, ap, subst, arith}
use Rattle.std.specs.Prelude.{slice_get}
use Rattle.std.specs.List.{list_all}
use Rattle.std.proofs.lemmas.List.{length-append, map-append}
use Rattle.m5_lex.specs.declared.place.Place.{Place}
use Rattle.m5_terms.specs.Outcome.{Outcome, found, fault}
use Rattle.m5_terms.specs.declared.types.World.{World}
use Rattle.m5_terms.specs.declared.types.Primitive.{Primitive}
use Rattle.m5_tree.specs.TypeSyntax.{TypeSyntax}
use Rattle.m5_tree.specs.Syntax.{Syntax}
use Rattle.m5_tree.specs.declared.tree.Extern.{Extern}
use Rattle.m5_tree.specs.declared.tree.Function.{Function}
use Rattle.m5_tree.specs.declared.tree.Program.{Program}
use Rattle.m5_raw.specs.InText.{in_text}
use Rattle.m5_raw.specs.RawTerm.{RawTerm, IsRaw}
use Rattle.m5_raw.specs.declared.function.Function as raw_function
use Rattle.m5_scope.specs.Written.{type_of}
use Rattle.m5_scope.specs.Places.{type_places, places, extern_lists, function_lists, program_places}
use Rattle.m5_scope.specs.Meaning.{Scope, hides, nothing_known}
use Rattle.m5_scope.specs.Resolving.{binders, resolved}
use Rattle.m5_scope.specs.Program.{primitive_of, once, made_known, externs_known, function_resolved, functions_resolved, program_resolved, unless_past, tree_resolved}
use Rattle.m5_scope.specs.declared.end.ScopeEnd.{ScopeEnd}
use Rattle.m5_scope.specs.declared.meaning.Meaning.{Meaning}
use Rattle.m5_scope.specs.declared.meaning.Meaning.TheVariants.{Var, Glob}
use Rattle.m5_scope.proofs.Counting.{Holds, holds_then}
use Rattle.m5_scope.proofs.Raws.{program_sizes}
use Rattle.m5_scope.proofs.Whole.{IsWhole, functions_whole}
use Rattle.m5_typing.specs.Program.{ProgramTerm, IsProgram, program_nodes as term_nodes, in_text as term_in_text}
use Rattle.m5_elaborate.specs.Checked.{elaborated}
use Rattle.m5_elaborate.specs.Erased.{erased_function, erased_functions, erased_program}
use Rattle.m5_elaborate.proofs.Erasing.{text, program_nodes}
use Rattle.m5_elaborate.proofs.Programs.{program_sound, program_complete, program_erased}
use Rattle.m5_cli.proofs.Likeness.{OutcomeLike, then_like, TypeLike, Same, Like}
use Rattle.m5_cli.proofs.LikeReading.{ExternsLike, no_externs, an_extern, FunctionsLike, no_functions, a_function, ProgramLike}

-- ---- names

once_like : {A : Type 0} (R : A → A → Type 0) (p q : Place) (m : Option Meaning) (o r : Outcome A ScopeEnd) → OutcomeLike R o r → OutcomeLike R (once p m o) (once q m r)
once_like R p q None o r h = h
once_like R p q (Some m) o r h = tt

abbrev SameScope : Scope → Scope → Type 0
SameScope a b = a ≡ b

known_like : (s : Scope) (p q : Place) (x : ℕ) (t u : TypeSyntax) (w : World) (m : Option Primitive)
    → OutcomeLike SameScope (made_known s (record { place = p; name = x; ty = t; world = w }) m) (made_known s (record { place = q; name = x; ty = u; world = w }) m)
known_like s p q x t u w None = tt
known_like s p q x t u w (Some m) = refl

extern_known : List (List ℕ) → Scope → Place → ℕ → TypeSyntax → World → Outcome Scope ScopeEnd
extern_known names s p x t w = once p (s x) (made_known s (record { place = p; name = x; ty = t; world = w }) (primitive_of (slice_get names x) (type_of t) w))

extern_like : (names : List (List ℕ)) (s : Scope) (p q : Place) (x : ℕ) (t u : TypeSyntax) (w : World) → TypeLike t u
    → OutcomeLike SameScope (extern_known names s p x t w) (extern_known names s q x u w)
unfolding extern_known
extern_like names s p q x t u w h =
    once_like SameScope p q (s x) _ _
    (subst (λ A. OutcomeLike SameScope (made_known s (record { place = p; name = x; ty = t; world = w }) (primitive_of (slice_get names x) (type_of t) w))
    (made_known s (record { place = q; name = x; ty = u; world = w }) (primitive_of (slice_get names x) A w))) h.same
    (known_like s p q x t u w (primitive_of (slice_get names x) (type_of t) w)))

externs_like : (names : List (List ℕ)) (s : Scope) {xs ys : List Extern} → ExternsLike xs ys → OutcomeLike SameScope (externs_known names s xs) (externs_known names s ys)
unfolding extern_known
externs_like names s no_externs = refl
externs_like names s (an_extern {p} {q} {x} {t} {u} {w} {xs} {ys} h more) =
    then_like SameScope SameScope (extern_known names s p x t w) (extern_known names s q x u w) (λ a. externs_known names a xs) (λ a. externs_known names a ys)
    (extern_like names s p q x t u w h)
    (λ a b e. subst (λ c. OutcomeLike SameScope (externs_known names a xs) (externs_known names c ys)) e (externs_like names a more))

abbrev SameFunction : raw_function.Function → raw_function.Function → Type 0
SameFunction g h = erased_function g ≡ erased_function h

abbrev pub SameRaw : RawTerm → RawTerm → Type 0
SameRaw x y = erased_program x ≡ erased_program y

function_like : (s : Scope) (number n : ℕ) (p q pn qn : Place) (x y : ℕ) (w : World) {t u v r : TypeSyntax} {e d : Syntax} → TypeLike t u → TypeLike v r → Like e d
    → OutcomeLike SameFunction (function_resolved s number n (record { place = p; name_place = pn; name = x; world = w; parameter = y; ty = t; result = v; body = e }))
    (function_resolved s number n (record { place = q; name_place = qn; name = x; world = w; parameter = y; ty = u; result = r; body = d }))
function_like s number n p q pn qn x y w {t} {u} {v} {r} {e} {d} h k b =
    once_like SameFunction pn qn (s x) _ _
    (then_like Same SameFunction (resolved (hides (hides s x (Glob number)) y (Var n)) (n + 1) e) (resolved (hides (hides s x (Glob number)) y (Var n)) (n + 1) d)
    (λ z. found (record { place = p; world = w; parameter = n; ty = type_of t; result = type_of v; body = z }))
    (λ z. found (record { place = q; world = w; parameter = n; ty = type_of u; result = type_of r; body = z }))
    (b.means (hides (hides s x (Glob number)) y (Var n)) (n + 1))
    (λ a c f i. record { world = w; parameter = n; ty = h.same i; result = k.same i; body = f i }))

more_erased : (done : List raw_function.Function) (g : raw_function.Function) → erased_functions (done ++ g ∷ []) ≡ erased_functions done ++ erased_function g ∷ []
more_erased done g = map-append erased_function done (g ∷ [])

functions_like : (done other : List raw_function.Function) → erased_functions done ≡ erased_functions other → length done ≡ length other → (s : Scope) (n : ℕ) {gs hs : List Function} → FunctionsLike gs hs
    → (p q : Place) {e d : Syntax} → Like e d → OutcomeLike SameRaw (functions_resolved done s n gs p e) (functions_resolved other s n hs q d)
functions_like done other same long s n no_functions p q {e} {d} b =
    then_like Same SameRaw (resolved s n e) (resolved s n d) (λ x. found (record { functions = done; place = p; main = x })) (λ x. found (record { functions = other; place = q; main = x }))
    (b.means s n) (λ x y f i. record { functions = same i; main = f i })
functions_like done other same long s n (a_function {p = gp} {q = hp} {pn} {qn} {x} {y} {w} {t} {u} {v} {r} {e = ge} {d = he} {gs} {hs} h k c more) p q {e} {d} b =
    let g : Function = record { place = gp; name_place = pn; name = x; world = w; parameter = y; ty = t; result = v; body = ge } in
    let o : Function = record { place = hp; name_place = qn; name = x; world = w; parameter = y; ty = u; result = r; body = he } in
    then_like SameFunction SameRaw (function_resolved s (length done) n g) (function_resolved s (length other) n o)
    (λ a. functions_resolved (done ++ a ∷ []) (hides s x (Glob (length done))) (n + (1 + binders ge)) gs p e)
    (λ a. functions_resolved (other ++ a ∷ []) (hides s x (Glob (length other))) (n + (1 + binders he)) hs q d)
    (subst (λ m. OutcomeLike SameFunction (function_resolved s (length done) n g) (function_resolved s m n o)) long (function_like s (length done) n gp hp pn qn x y w h k c))
    (λ a a' f.
    subst (λ m. OutcomeLike SameRaw (functions_resolved (done ++ a ∷ []) (hides s x (Glob (length done))) (n + (1 + binders ge)) gs p e) (functions_resolved (other ++ a' ∷ []) (hides s x (Glob (length other))) (n + (1 + m)) hs q d)) c.binds
    (subst (λ m. OutcomeLike SameRaw (functions_resolved (done ++ a ∷ []) (hides s x (Glob (length done))) (n + (1 + binders ge)) gs p e) (functions_resolved (other ++ a' ∷ []) (hides s x (Glob m)) (n + (1 + binders ge)) hs q d)) long
    (functions_like (done ++ a ∷ []) (other ++ a' ∷ []) (more_erased done a ∙ (λ i. same i ++ f i ∷ []) ∙ sym (more_erased other a'))
    (omega (arith, long, length-append done (a ∷ []), length-append other (a' ∷ []))) (hides s x (Glob (length done))) (n + (1 + binders ge)) more p q b)))

program_like : (names : List (List ℕ)) (p q : Program) → ProgramLike p q → OutcomeLike SameRaw (program_resolved names p) (program_resolved names q)
program_like names p q h =
    then_like SameScope SameRaw (externs_known names nothing_known p.declarations.externs) (externs_known names nothing_known q.declarations.externs)
    (λ s. functions_resolved [] s 0 p.declarations.functions p.main p.body) (λ s. functions_resolved [] s 0 q.declarations.functions q.main q.body)
    (externs_like names nothing_known h.declarations.externs)
    (λ a b e. subst (λ c. OutcomeLike SameRaw (functions_resolved [] a 0 p.declarations.functions p.main p.body) (functions_resolved [] c 0 q.declarations.functions q.main q.body)) e
    (functions_like [] [] refl refl a 0 h.declarations.functions p.main q.main h.body))

-- ---- as many nodes

extern_nodes : {xs ys : List Extern} → ExternsLike xs ys → length (extern_lists xs) ≡ length (extern_lists ys)
extern_nodes no_externs = refl
extern_nodes (an_extern {t} {u} {xs} {ys} h more) =
    omega (arith, h.nodes, extern_nodes more, length-append (type_places t) (extern_lists xs), length-append (type_places u) (extern_lists ys))

function_nodes : {gs hs : List Function} → FunctionsLike gs hs → length (function_lists gs) ≡ length (function_lists hs)
function_nodes no_functions = refl
function_nodes (a_function {t} {u} {v} {r} {e} {d} {gs} {hs} h k b more) =
    omega (
      arith,
      h.nodes,
      k.nodes,
      b.nodes,
      function_nodes more,
      length-append (type_places t ++ (type_places v ++ places e)) (function_lists gs),
      length-append (type_places t) (type_places v ++ places e),
      length-append (type_places v) (places e),
      length-append (type_places u ++ (type_places r ++ places d)) (function_lists hs),
      length-append (type_places u) (type_places r ++ places d),
      length-append (type_places r) (places d),
    )

nodes_like : (p q : Program) → ProgramLike p q → length (program_places p) ≡ length (program_places q)
nodes_like p q h =
    omega (
      arith,
      extern_nodes h.declarations.externs,
      function_nodes h.declarations.functions,
      h.body.nodes,
      length-append (extern_lists p.declarations.externs) (function_lists p.declarations.functions ++ places p.body),
      length-append (function_lists p.declarations.functions) (places p.body),
      length-append (extern_lists q.declarations.externs) (function_lists q.declarations.functions ++ places q.body),
      length-append (function_lists q.declarations.functions) (places q.body),
    )

abbrev BothPast : Option Place → Option Place → Type 0
BothPast None None = Unit {0}
BothPast (Some p) (Some q) = Unit {0}
BothPast _ _ = ⊥

past_like : (ps qs : List Place) (n : ℕ) → length ps ≡ length qs → BothPast (slice_get ps n) (slice_get qs n)
past_like [] [] n h = tt
past_like [] (q ∷ qs) n h = absurd (omega (arith, h))
past_like (p ∷ ps) [] n h = absurd (omega (arith, h))
past_like (p ∷ ps) (q ∷ qs) zero h = tt
past_like (p ∷ ps) (q ∷ qs) (suc n) h = past_like ps qs n (omega (arith, h))

unless_like : (a b : Option Place) (o r : Outcome RawTerm ScopeEnd) → BothPast a b → OutcomeLike SameRaw o r → OutcomeLike SameRaw (unless_past a o) (unless_past b r)
unless_like None None o r h k = k
unless_like (Some p) (Some q) o r h k = tt
unless_like None (Some q) o r h k = absurd h
unless_like (Some p) None o r h k = absurd h

pub resolved_like : (names : List (List ℕ)) (p q : Program) → ProgramLike p q → OutcomeLike SameRaw (tree_resolved names p) (tree_resolved names q)
resolved_like names p q h =
    unless_like (slice_get (program_places p) 16000) (slice_get (program_places q) 16000) (program_resolved names p) (program_resolved names q)
    (past_like (program_places p) (program_places q) 16000 (nodes_like p q h)) (program_like names p q h)

pub record FoundLike (x : RawTerm) (o : Outcome RawTerm ScopeEnd) : Type 0 where
  pub other : RawTerm
  pub is : o ≡ found other
  pub same : SameRaw x other

pub found_like : (x : RawTerm) (o r : Outcome RawTerm ScopeEnd) → o ≡ found x → OutcomeLike SameRaw o r → FoundLike x r
found_like x o (found y) e h = record { other = y; is = refl; same = subst (λ b. OutcomeLike SameRaw b (found y)) e h }
found_like x o (fault d) e h = absurd (subst (λ b. OutcomeLike SameRaw b (fault d)) e h)

-- ---- types

bodies_same : (gs : List raw_function.Function) → list_all (λ g. term_in_text g.body) (erased_functions gs) ≡ list_all (λ g. in_text g.body) gs
bodies_same [] = refl
bodies_same (g ∷ gs) = λ i. text g.body i && bodies_same gs i

raw_like : (x y : RawTerm) → SameRaw x y → IsRaw x → IsRaw y
raw_like x y e h = record {
  size = omega (arith, program_nodes x, program_nodes y, ap term_nodes e, h.size);
  bodies_in_text = subst (λ b. IsTrue b) (bodies_same y.functions)
      (subst (λ p. IsTrue (list_all (λ g. term_in_text g.body) p.functions)) e (subst (λ b. IsTrue b) (sym (bodies_same x.functions)) h.bodies_in_text));
  main_in_text = subst (λ b. IsTrue b) (text y.main) (subst (λ p. IsTrue (term_in_text p.main)) e (subst (λ b. IsTrue b) (sym (text x.main)) h.main_in_text));
}

pub typed_like : (x y : RawTerm) (p : ProgramTerm) → IsRaw x → SameRaw x y → elaborated x ≡ found p → elaborated y ≡ found p
typed_like x y p h e k =
    program_complete y (raw_like x y e h) (subst (λ t. IsProgram t) e (program_sound x p h k)) ∙ ap (λ t. found t) (sym (program_erased x p k ∙ e))

-- ---- a resolved program keeps to the limits

any_holds : (o : Outcome Scope ScopeEnd) → Holds (λ s. Unit {0}) o
any_holds (found s) = tt
any_holds (fault e) = tt

within_of : (ps : List Place) (n : ℕ) → slice_get ps n ≡ None → length ps ≤ n
within_of [] n h = omega arith
within_of (p ∷ ps) zero h = absurd cc
within_of (p ∷ ps) (suc n) h = omega (arith, within_of ps n h)

record NotPast (m : Option Place) (o : Outcome RawTerm ScopeEnd) (x : RawTerm) : Type 0 where
  none : m ≡ None
  is : o ≡ found x

not_past : (m : Option Place) (o : Outcome RawTerm ScopeEnd) (x : RawTerm) → unless_past m o ≡ found x → NotPast m o x
not_past None o x h = record { none = refl; is = h }
not_past (Some p) o x h = absurd cc

pub resolved_raw : (names : List (List ℕ)) (p : Program) (x : RawTerm) → tree_resolved names p ≡ found x → IsRaw x
resolved_raw names p x h =
    let few = not_past (slice_get (program_places p) 16000) (program_resolved names p) x h in
    let count : ℕ = 0 + (length (function_lists p.declarations.functions) + length (places p.body)) in
    let whole : Holds (IsWhole count) (program_resolved names p) =
    holds_then (λ s. Unit {0}) (IsWhole count) (externs_known names nothing_known p.declarations.externs) (λ s. functions_resolved [] s 0 p.declarations.functions p.main p.body)
    (any_holds (externs_known names nothing_known p.declarations.externs)) (λ s k. functions_whole [] s 0 p.declarations.functions p.main p.body refl) in
    let found_whole : IsWhole count x = subst (λ o. Holds (IsWhole count) o) few.is whole in
    record {
      size = omega (arith, found_whole.nodes, program_sizes p (within_of (program_places p) 16000 few.none));
      bodies_in_text = found_whole.bodies;
      main_in_text = found_whole.main;
    }
