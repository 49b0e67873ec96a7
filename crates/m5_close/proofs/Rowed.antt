-- The environments of labels, as a list in which each is found.
use Rattle.std.proofs.Common.{◌≡◌, ℕ, ◌==◌, ◌||◌, Bool, true, false, if◌then◌else◌, List, [], ◌∷◌, ◌++◌, map, slice_get, Option, Some, None, refl, sym, ap, subst, ◌∙◌, true≢false, arith}
use Rattle.std.specs.List.{AllByRecursion as Each}
use Rattle.m5_terms.specs.Substitution.{among}
use Rattle.m5_cps.specs.Slots.{Slot}
use Rattle.m5_flat.specs.Blocks.{Block, Blocks}
use Rattle.m5_flat.specs.Fits.{Environments}
use Rattle.m5_flat.specs.Program.{IsBlock}
use Rattle.m5_close.specs.Close.{AreDistinct}
use Rattle.m5_close.proofs.Slots.{itself}

-- a label, and what its closures take; a way of a test that is never taken says nothing of it
pub record Row : Type 0 where
  pub label : ℕ
  pub environment : Option (List Slot)

abbrev pub row_label : Row → ℕ
row_label r = r.label

abbrev pub labels_of : List Row → List ℕ
labels_of rs = map row_label rs

abbrev pub found : List Row → ℕ → Option (List Slot)
found [] i = None
found (r ∷ rs) i = if r.label == i then r.environment else found rs i

abbrev pub Knows : Environments → Row → Type 0
Knows M r = M r.label ≡ r.environment

abbrev pub IsTypedAt : Blocks → Environments → ℕ → Option (List Slot) → Type 0
IsTypedAt B M i None = Unit {0}
IsTypedAt B M i (Some es) = (b : Block) × (slice_get B.table i ≡ Some b) × IsBlock B M es b

abbrev pub IsTypedRow : Blocks → Environments → Row → Type 0
IsTypedRow B M r = IsTypedAt B M r.label r.environment

pub first_of_both : {A : Type 0} (P : A → Type 0) (xs ys : List A) → Each P (xs ++ ys) → Each P xs
first_of_both P [] ys h = tt
first_of_both P (x ∷ xs) ys h = (h.0, first_of_both P xs ys h.1)

pub second_of_both : {A : Type 0} (P : A → Type 0) (xs ys : List A) → Each P (xs ++ ys) → Each P ys
second_of_both P [] ys h = h
second_of_both P (x ∷ xs) ys h = second_of_both P xs ys h.1

-- labels of which nothing is said
abbrev pub unsaid : List ℕ → List Row
unsaid [] = []
unsaid (i ∷ is) = record { label = i; environment = None } ∷ unsaid is

pub unsaid_labels : (is : List ℕ) → labels_of (unsaid is) ≡ is
unsaid_labels [] = refl
unsaid_labels (i ∷ is) = ap (λ js. i ∷ js) (unsaid_labels is)

pub unsaid_typed : (B : Blocks) (M : Environments) (is : List ℕ) → Each (IsTypedRow B M) (unsaid is)
unsaid_typed B M [] = tt
unsaid_typed B M (i ∷ is) = (tt, unsaid_typed B M is)

-- what is found stays so behind another label
still : (x : Row) (rs qs : List Row) → among x.label (labels_of qs) ≡ false → Each (Knows (found rs)) qs → Each (Knows (found (x ∷ rs))) qs
still x rs [] n h = tt
still x rs (q ∷ qs) n h = by_test (λ k. still x rs qs k h.1) (x.label == q.label) refl
  where
    by_test : (among x.label (labels_of qs) ≡ false → Each (Knows (found (x ∷ rs))) qs) → (b : Bool) → (x.label == q.label) ≡ b → Each (Knows (found (x ∷ rs))) (q ∷ qs)
    by_test ih true e = absurd (true≢false (sym (ap (λ b. b || among x.label (labels_of qs)) e) ∙ n))
    by_test ih false e = (
      ap (λ b. if b then x.environment else found rs q.label) e ∙ h.0,
      ih (sym (ap (λ b. b || among x.label (labels_of qs)) e) ∙ n),
    )

-- each is found, where the labels are distinct
pub all_found : (rs : List Row) → AreDistinct (labels_of rs) → Each (Knows (found rs)) rs
all_found [] d = tt
all_found (r ∷ rs) d = (ap (λ b. if b then r.environment else found rs r.label) (itself r.label), still r rs rs d.0 (all_found rs d.1))

-- a row that is found is typed
pub found_typed : (B : Blocks) (M : Environments) (rs : List Row) (i : ℕ) (es : List Slot) → Each (IsTypedRow B M) rs → found rs i ≡ Some es → IsTypedAt B M i (Some es)
found_typed B M [] i es h e = absurd (cc (e))
found_typed B M (r ∷ rs) i es h e = by_test (λ k. found_typed B M rs i es h.1 k) (r.label == i) refl
  where
    by_test : (found rs i ≡ Some es → IsTypedAt B M i (Some es)) → (b : Bool) → (r.label == i) ≡ b → IsTypedAt B M i (Some es)
    by_test ih true q =
        let same : r.label ≡ i = grind (arith, q) in
        let o : r.environment ≡ Some es = sym (ap (λ b. if b then r.environment else found rs i) q) ∙ e in
        subst (λ z. IsTypedAt B M z (Some es)) same (subst (λ z. IsTypedAt B M r.label z) o h.0)
    by_test ih false q = ih (sym (ap (λ b. if b then r.environment else found rs i) q) ∙ e)
