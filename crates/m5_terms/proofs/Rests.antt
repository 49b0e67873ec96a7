-- The head of what is left of a text.
use Rattle.std.proofs.Common.{◌≡◌, ℕ, ◌+◌, ◌≤◌, ◌<◌, List, [], ◌∷◌, length, drop, get_or, ap, ◌∙◌, arith, add-one}
use Rattle.std.proofs.Math.Seq.{drop-cons}
use Rattle.std.proofs.lemmas.List.{drop_all}

pub one_at : (s : List ℕ) (i : ℕ) → i < length s → drop i s ≡ get_or s i 0 ∷ drop (i + 1) s
one_at s i h = rw (add-one, drop-cons s i 0)

pub two_at : (s : List ℕ) (i : ℕ) → i + 1 < length s → drop i s ≡ get_or s i 0 ∷ get_or s (i + 1) 0 ∷ drop (i + 2) s
two_at s i h =
    let near : i < length s = omega arith in
    let two : i + 1 + 1 ≡ i + 2 = omega arith in
    one_at s i near ∙ ap (λ (r : List ℕ). get_or s i 0 ∷ r) (one_at s (i + 1) h ∙ ap (λ (k : ℕ). get_or s (i + 1) 0 ∷ drop k s) two)

pub last_at : (s : List ℕ) (i : ℕ) → i < length s → length s ≤ i + 1 → drop i s ≡ get_or s i 0 ∷ []
last_at s i h k = one_at s i h ∙ ap (λ (r : List ℕ). get_or s i 0 ∷ r) (drop_all (i + 1) s k)
