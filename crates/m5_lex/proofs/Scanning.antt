-- What one more byte does to a comment that is being read.
use Rattle.std.proofs.Common.{◌≡◌, ◌≢◌, ℕ, ◌+◌, ◌-◌, ◌≤◌, ◌<◌, true, false, eqb, List, [], ◌∷◌, ◌++◌, length, drop, get_or, Option, Some, None, refl, ap, sym, ◌∙◌, arith, inl, inr, add-one, add-zero, append_assoc, add_assoc}
use Rattle.std.proofs.Math.Seq.{drop-cons}
use Rattle.std.proofs.lemmas.List.{drop_all, get_or_past, append-nil}
use Rattle.std.proofs.lemmas.Bool.{cases_lt}
use Rattle.std.proofs.lemmas.Bool.Decides.{nat_tests}
use Rattle.m5_terms.proofs.Rests.{one_at, two_at, last_at}
use Rattle.m5_lex.specs.Alphabet.{opens, closes}
use Rattle.m5_lex.specs.Lexeme.{longer, comment_length}

-- ---- comments

longer-longer : (a b : ℕ) (o : Option ℕ) → longer a (longer b o) ≡ longer (a + b) o
longer-longer a b None = refl
longer-longer a b (Some n) = ap (λ (k : ℕ). Some k) (omega arith)

longer-zero : (o : Option ℕ) → longer 0 o ≡ o
longer-zero None = refl
longer-zero (Some n) = ap (λ (k : ℕ). Some k) (omega arith)

pub comment_opens : (d i : ℕ) (s : List ℕ) → i + 1 < length s → get_or s i 0 ≡ 40 → get_or s (i + 1) 0 ≡ 42
    → longer i (comment_length d (drop i s)) ≡ longer (i + 2) (comment_length (d + 1) (drop (i + 2) s))
comment_opens d i s h x y = rw (two_at s i h, x, y) (longer-longer i 2 (comment_length (d + 1) (drop (i + 2) s)))

pub comment_closes : (d i : ℕ) (s : List ℕ) → i + 1 < length s → get_or s i 0 ≡ 42 → get_or s (i + 1) 0 ≡ 41 → d ≢ 1
    → longer i (comment_length d (drop i s)) ≡ longer (i + 2) (comment_length (d - 1) (drop (i + 2) s))
comment_closes d i s h x y n =
    let more : eqb d 1 ≡ false = grind (arith, nat_tests) in
    rw (two_at s i h, x, y, more) (longer-longer i 2 (comment_length (d - 1) (drop (i + 2) s)))

pub comment_ends : (d i : ℕ) (s : List ℕ) → i + 1 < length s → get_or s i 0 ≡ 42 → get_or s (i + 1) 0 ≡ 41 → d ≡ 1
    → longer i (comment_length d (drop i s)) ≡ Some (i + 2)
comment_ends d i s h x y n = rw (two_at s i h, x, y, n) refl

pub comment_goes : (d i : ℕ) (s : List ℕ) → i + 1 < length s
    → (get_or s i 0 ≡ 40 → get_or s (i + 1) 0 ≢ 42) → (get_or s i 0 ≡ 42 → get_or s (i + 1) 0 ≢ 41)
    → longer i (comment_length d (drop i s)) ≡ longer (i + 1) (comment_length d (drop (i + 1) s))
comment_goes d i s h x y =
    let inside : opens (get_or s i 0) (get_or s (i + 1) 0) ≡ false = grind (arith, nat_tests) in
    let on : closes (get_or s i 0) (get_or s (i + 1) 0) ≡ false = grind (arith, nat_tests) in
    let next : drop (i + 1) s ≡ get_or s (i + 1) 0 ∷ drop (i + 2) s = one_at s (i + 1) h ∙ ap (λ (k : ℕ). get_or s (i + 1) 0 ∷ drop k s) (omega arith) in
    rw (two_at s i h, inside, on, next) (longer-longer i 1 (comment_length d (get_or s (i + 1) 0 ∷ drop (i + 2) s)))

pub comment_cut : (d i : ℕ) (s : List ℕ) → length s ≤ i + 1 → comment_length d (drop i s) ≡ None
comment_cut d i s h = elim (cases_lt i (length s)) [
  | inl lt ↦ rw (last_at s i lt h) refl
  | inr le ↦ rw (drop_all i s le) refl
]
