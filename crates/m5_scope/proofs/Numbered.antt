-- Binders are numbered in the order of the text.
use Rattle.std.specs.Prelude.{slice_get}
use Rattle.std.proofs.Common.{◌≡◌, ℕ, zero, suc, ◌+◌, Option, Some, None, List, [], ◌∷◌, ◌++◌, length, append_assoc, refl, ap, sym, subst, ◌∙◌, arith}
use Rattle.std.proofs.lemmas.List.{append-nil}
use Rattle.m5_lex.specs.declared.place.Place.{Place}
use Rattle.m5_tree.specs.Syntax as syntax
use Rattle.m5_tree.specs.declared.form.UnaryForm as tree_unary
use Rattle.m5_tree.specs.declared.form.UnaryForm.TheVariants as unary_tree
use Rattle.m5_tree.specs.declared.form.BinaryForm as tree_binary
use Rattle.m5_tree.specs.declared.form.BinaryForm.TheVariants as binary_tree
use Rattle.m5_tree.specs.declared.form.TernaryForm as tree_ternary
use Rattle.m5_tree.specs.declared.form.TernaryForm.TheVariants as ternary_tree
use Rattle.m5_tree.specs.declared.tree.Function as functions
use Rattle.m5_terms.specs.declared.form.LeafForm.{LeafForm}
use Rattle.m5_raw.specs.Resolved.{Resolved, leaf}
use Rattle.m5_raw.specs.RawTerm.{RawTerm}
use Rattle.m5_raw.specs.declared.function.Function.{Function}
use Rattle.m5_scope.specs.Forms.{unary_resolved, unary_binding, unary_count, binary_resolved, binary_binding, binary_count, ternary_resolved, second_binding, third_binding, second_count, third_count}
use Rattle.m5_scope.specs.Meaning.{Scope, entered, hides, nothing_known}
use Rattle.m5_terms.specs.Outcome.{found, fault, and_then}
use Rattle.m5_scope.specs.Resolving.{Outcome, binders, leaf_resolved, resolved}
use Rattle.m5_scope.specs.Places.{program_places}
use Rattle.m5_scope.specs.Program.{externs_known, function_resolved, functions_resolved, list_binders, program_resolved, unless_past}
use Rattle.m5_scope.specs.Binders.{unary_numbers, binary_numbers, second_numbers, third_numbers, numbers, function_numbers, raw_numbers, count_from, BindersDiffer}
use Rattle.m5_scope.specs.declared.meaning.Meaning.TheVariants.{Var, Glob}
use Rattle.m5_scope.proofs.Counting.{Holds, holds_then}
use Rattle.m5_scope.proofs.Whole.{once_holds}

count_join : (n a b : ℕ) → count_from n (a + b) ≡ count_from n a ++ count_from (n + a) b
count_join n zero b =
    let none : 0 + b ≡ b = omega arith in
    let same : n ≡ n + 0 = omega arith in
    ap (λ k. count_from n k) none ∙ ap (λ m. count_from m b) same
count_join n (suc a) b =
    let more : suc a + b ≡ suc (a + b) = omega arith in
    let same : n + 1 + a ≡ n + suc a = omega arith in
    ap (λ k. count_from n k) more ∙ ap (λ ks. n ∷ ks) (count_join (n + 1) a b ∙ ap (λ m. count_from (n + 1) a ++ count_from m b) same)

-- a list that counts on where another ends
joined : (n a b : ℕ) (xs ys : List ℕ) → xs ≡ count_from n a → ys ≡ count_from (n + a) b → xs ++ ys ≡ count_from n (a + b)
joined n a b xs ys h k = ap (λ zs. zs ++ ys) h ∙ ap (λ zs. count_from n a ++ zs) k ∙ sym (count_join n a b)

unary_counted : (n : ℕ) (f : tree_unary.UnaryForm) → unary_numbers (unary_resolved n f) ≡ count_from n (unary_count f)
unary_counted n (unary_tree.Fn x t) = refl
unary_counted n (unary_tree.Rec f x t u) = refl
unary_counted n _ = refl

binary_counted : (n : ℕ) (f : tree_binary.BinaryForm) → binary_numbers (binary_resolved n f) ≡ count_from n (binary_count f)
binary_counted n (binary_tree.Val x) = refl
binary_counted n _ = refl

second_counted : (m k : ℕ) (f : tree_ternary.TernaryForm) → second_numbers (ternary_resolved m k f) ≡ count_from m (second_count f)
second_counted m k ternary_tree.If = refl
second_counted m k (ternary_tree.CaseSum x y) = refl
second_counted m k (ternary_tree.CaseList x y) = refl

third_counted : (m k : ℕ) (f : tree_ternary.TernaryForm) → third_numbers (ternary_resolved m k f) ≡ count_from k (third_count f)
third_counted m k ternary_tree.If = refl
third_counted m k (ternary_tree.CaseSum x y) = refl
third_counted m k (ternary_tree.CaseList x y) = refl

-- the binders of a term have the numbers from the next one on
abbrev Numbered : ℕ → ℕ → Resolved → Type 0
Numbered n count x = numbers x ≡ count_from n count

leaf_numbered : (n : ℕ) (at : Place) (o : Outcome LeafForm) → Holds (Numbered n 0) (and_then o (λ g. found (leaf at g)))
leaf_numbered n at (found g) = refl
leaf_numbered n at (fault e) = tt

pub numbered : (s : Scope) (n : ℕ) (e : syntax.Syntax) → Holds (Numbered n (binders e)) (resolved s n e)
numbered s n (syntax.leaf at f) = leaf_numbered n at (leaf_resolved s at f)
numbered s n (syntax.unary at f a) =
    holds_then (Numbered (n + unary_count f) (binders a)) (Numbered n (unary_count f + binders a)) _ _
    (numbered (entered s (unary_binding n f)) (n + unary_count f) a)
    (λ x h. joined n (unary_count f) (binders a) _ _ (unary_counted n f) h)
numbered s n (syntax.binary at f a b) =
    let m = n + binary_count f in
    holds_then (Numbered m (binders a)) (Numbered n (binary_count f + (binders a + binders b))) _ _ (numbered s m a)
    (λ x h. holds_then (Numbered (m + binders a) (binders b)) (Numbered n (binary_count f + (binders a + binders b))) _ _
    (numbered (entered s (binary_binding n f)) (m + binders a) b)
    (λ y k. joined n (binary_count f) (binders a + binders b) _ _ (binary_counted n f) (joined m (binders a) (binders b) _ _ h k)))
numbered s n (syntax.ternary at f a b c) =
    let m = n + binders a in
    let j = m + second_count f + binders b in
    let all = binders a + (second_count f + (binders b + (third_count f + binders c))) in
    holds_then (Numbered n (binders a)) (Numbered n all) _ _ (numbered s n a)
    (λ x h. holds_then (Numbered (m + second_count f) (binders b)) (Numbered n all) _ _
    (numbered (entered s (second_binding m f)) (m + second_count f) b)
    (λ y k. holds_then (Numbered (j + third_count f) (binders c)) (Numbered n all) _ _
    (numbered (entered s (third_binding j f)) (j + third_count f) c)
    (λ z l. joined n (binders a) (second_count f + (binders b + (third_count f + binders c))) _ _ h
    (joined m (second_count f) (binders b + (third_count f + binders c)) _ _ (second_counted m j f)
    (joined (m + second_count f) (binders b) (third_count f + binders c) _ _ k
    (joined j (third_count f) (binders c) _ _ (third_counted m j f) l))))))

function_numbered : (s : Scope) (number n : ℕ) (g : functions.Function) → Holds (λ h. h.parameter ∷ numbers h.body ≡ count_from n (1 + binders g.body)) (function_resolved s number n g)
function_numbered s number n g =
    let one : 1 + binders g.body ≡ suc (binders g.body) = omega arith in
    once_holds (λ (h : Function). h.parameter ∷ numbers h.body ≡ count_from n (1 + binders g.body)) g.name_place (s g.name) _
    (holds_then (Numbered (n + 1) (binders g.body)) (λ (h : Function). h.parameter ∷ numbers h.body ≡ count_from n (1 + binders g.body)) _ _
    (numbered (hides (hides s g.name (Glob number)) g.parameter (Var n)) (n + 1) g.body)
    (λ x h. ap (λ ks. n ∷ ks) h ∙ ap (λ k. count_from n k) (sym one)))

function_numbers-append : (gs : List Function) (h : Function) → function_numbers (gs ++ h ∷ []) ≡ function_numbers gs ++ (h.parameter ∷ numbers h.body)
function_numbers-append [] h = append-nil (h.parameter ∷ numbers h.body)
function_numbers-append (g ∷ gs) h = ap (λ ks. (g.parameter ∷ numbers g.body) ++ ks) (function_numbers-append gs h) ∙ sym (append_assoc (g.parameter ∷ numbers g.body) (function_numbers gs) (h.parameter ∷ numbers h.body))

-- the functions so far and what is still to be resolved
abbrev FromOn : List Function → ℕ → ℕ → RawTerm → Type 0
FromOn done n count r = raw_numbers r ≡ function_numbers done ++ count_from n count

holds_more : {A : Type 0} (P Q : A → Type 0) (o : Outcome A) → ((x : A) → P x → Q x) → Holds P o → Holds Q o
holds_more P Q (found x) more h = more x h
holds_more P Q (fault e) more h = tt

-- one function more is resolved
one_more : (done : List Function) (h : Function) (n one later : ℕ) (r : RawTerm) → h.parameter ∷ numbers h.body ≡ count_from n one → FromOn (done ++ h ∷ []) (n + one) later r → FromOn done n (one + later) r
one_more done h n one later r k so =
    so ∙ ap (λ ks. ks ++ count_from (n + one) later) (function_numbers-append done h)
    ∙ append_assoc (function_numbers done) (h.parameter ∷ numbers h.body) (count_from (n + one) later)
    ∙ ap (λ ks. function_numbers done ++ ks) (joined n one later _ _ k refl)

functions_numbered : (done : List Function) (s : Scope) (n : ℕ) (gs : List functions.Function) (at : Place) (e : syntax.Syntax) → Holds (FromOn done n (list_binders gs + binders e)) (functions_resolved done s n gs at e)
functions_numbered done s n [] at e =
    let none : 0 + binders e ≡ binders e = omega arith in
    holds_then (Numbered n (binders e)) (FromOn done n (0 + binders e)) _ _ (numbered s n e)
    (λ x h. ap (λ ks. function_numbers done ++ ks) (h ∙ ap (λ k. count_from n k) (sym none)))
functions_numbered done s n (g ∷ gs) at e =
    let one = 1 + binders g.body in
    let later = list_binders gs + binders e in
    let all : one + later ≡ list_binders (g ∷ gs) + binders e = omega arith in
    holds_then (λ (h : Function). h.parameter ∷ numbers h.body ≡ count_from n one) (FromOn done n (list_binders (g ∷ gs) + binders e)) _ _
    (function_numbered s (length done) n g)
    (λ h k. holds_more (FromOn (done ++ h ∷ []) (n + one) later) (FromOn done n (list_binders (g ∷ gs) + binders e)) _
    (λ r so. subst (λ (c : ℕ). FromOn done n c r) all (one_more done h n one later r k so))
    (functions_numbered (done ++ h ∷ []) (hides s g.name (Glob (length done))) (n + one) gs at e))

after_externs : (P : RawTerm → Type 0) (o : Outcome Scope) (f : Scope → Outcome RawTerm) → ((s : Scope) → Holds P (f s)) → Holds P (and_then o f)
after_externs P (found s) f h = h s
after_externs P (fault e) f h = tt

within_limit : (P : RawTerm → Type 0) (past : Option Place) (o : Outcome RawTerm) → Holds P o → Holds P (unless_past past o)
within_limit P None o h = h
within_limit P (Some at) o h = tt

pub binders_differ : BindersDiffer
binders_differ names p r h =
    let count = list_binders p.declarations.functions + binders p.body in
    let P : RawTerm → Type 0 = λ q. raw_numbers q ≡ count_from 0 count in
    subst (λ (o : Outcome RawTerm). Holds P o) h
    (within_limit P (slice_get (program_places p) 16000) (program_resolved names p)
    (after_externs P (externs_known names nothing_known p.declarations.externs) (λ s. functions_resolved [] s 0 p.declarations.functions p.main p.body)
    (λ s. functions_numbered [] s 0 p.declarations.functions p.main p.body)))
