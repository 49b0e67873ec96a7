-- The tokens that are read are tokens of the lexical form.
use Rattle.std.proofs.Common.{◌≡◌, ℕ, ◌≤◌, ◌<◌, Bool, true, false, cond, eqb, List, [], ◌∷◌, ◌++◌, length, take, get_or, Option, Some, None, refl, ap, subst, ◌∙◌, arith, inl, inr}
use Rattle.std.specs.Prelude.{IfSome}
use Rattle.std.specs.List.{AllPass, prefix_len, take_while}
use Rattle.std.proofs.Math.Bool.{and-false}
use Rattle.std.proofs.lemmas.Bool.{cases_lt}
use Rattle.std.proofs.lemmas.Bool.Decides.{nat_tests}
use Rattle.std.proofs.lemmas.List.{get_or-take, get_or_past}
use Rattle.std.proofs.lemmas.List.Elements.{All-push}
use Rattle.std.proofs.lemmas.List.Sums.{prefix_len_passes, prefix_len-le-length}
use Rattle.std.proofs.lemmas.List.Folds.{length-prefix_len}
use Rattle.m5_terms.specs.Decimal.{is_digit}
use Rattle.m5_lex.specs.Alphabet.{is_letter, is_name_byte, place_of, symbols}

-- ---- names and numbers

taken_pass : (p : ℕ → Bool) (s : List ℕ) → AllPass p (take (prefix_len p s) s)
taken_pass p s k d h =
    let near : k < prefix_len p s = omega (arith, length-prefix_len p s) in
    rw (get_or-take (prefix_len p s) s k d near) (prefix_len_passes p s k d near)

-- something is taken where the first byte passes
taken_some : (p : ℕ → Bool) (s : List ℕ) → p 0 ≡ false → p (get_or s 0 0) ≡ true → 1 ≤ prefix_len p s
taken_some p [] fails passes = absurd cc
taken_some p (x ∷ s) fails passes = rw passes (omega arith)

letter_name : (x : ℕ) → is_letter x ≡ true → is_name_byte x ≡ true
letter_name x h = rw h refl

-- a name takes something, is within the rest, begins with the letter and goes on as names do
pub name_fits : (s : List ℕ) (n : ℕ) → n ≡ length (take_while is_name_byte s) → is_letter (get_or s 0 0) ≡ true
    → (1 ≤ n) × (n ≤ length s) × (take n s ≡ take_while is_name_byte s) × (is_letter (get_or (take n s) 0 0) ≡ true) × AllPass is_name_byte (take n s)
name_fits s n e first =
    let count : n ≡ prefix_len is_name_byte s = e ∙ length-prefix_len is_name_byte s in
    let some : 1 ≤ prefix_len is_name_byte s = taken_some is_name_byte s refl (letter_name (get_or s 0 0) first) in
    let all : AllPass is_name_byte (take n s) = rw count (taken_pass is_name_byte s) in
    (omega arith, omega (arith, prefix_len-le-length is_name_byte s), ap (λ (k : ℕ). take k s) count, rw (get_or-take n s 0 0 (omega arith)) first, all)

pub digits_pass : (s : List ℕ) (n : ℕ) → n ≡ length (take_while is_digit s) → AllPass is_digit (take n s)
digits_pass s n e = rw (e, length-prefix_len is_digit s) (taken_pass is_digit s)

pub digits_fit : (s : List ℕ) (n : ℕ) → n ≡ length (take_while is_digit s) → is_digit (get_or s 0 0) ≡ true → (1 ≤ n) × (n ≤ length s)
digits_fit s n e first = (omega (arith, length-prefix_len is_digit s, taken_some is_digit s refl first), omega (arith, length-prefix_len is_digit s, prefix_len-le-length is_digit s))

-- no symbol has a byte 0
pub no_zero_symbol : (x : ℕ) → place_of (x ∷ 0 ∷ []) symbols ≡ None
unfolding symbols
no_zero_symbol x = simp and-false

-- a symbol of two bytes lies within the rest
pub two_within : (s : List ℕ) (n : ℕ) → 1 ≤ length s → place_of (get_or s 0 0 ∷ get_or s 1 0 ∷ []) symbols ≡ Some n → 2 ≤ length s
two_within s n some e = elim (cases_lt 1 (length s)) [
  | inl lt ↦ omega arith
  | inr le ↦ absurd (let f = rw (get_or_past s 1 0 le, no_zero_symbol (get_or s 0 0)) at e in cc)
]
