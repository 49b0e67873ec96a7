-- A step that is spelled at the front of bytes is guessed there.
use Rattle.std.proofs.Common.{◌≡◌, ℕ, suc, ◌+◌, ◌-◌, ◌<◌, ◌≤◌, ◌^◌, ◌∙◌, List, [], ◌∷◌, ◌++◌, length, drop, refl, ap, sym, subst, arith, Option, Some, None, Bool, true, false, nat_le, if◌then◌else◌, inl, inr, codes}
use Rattle.std.specs.List.{take_while, AllPass}
use Rattle.std.specs.Char.{digit_value}
use Rattle.std.specs.Fmt.{decimal}
use Rattle.std.specs.Str.Parse.{AllDigits, digits_value}
use Rattle.std.proofs.lemmas.Str.Parse.{digit_from_value}
use Rattle.std.proofs.lemmas.Fmt.{decimal_is_IsNumeral}
use Rattle.std.proofs.lemmas.List.{drop_at}
use Rattle.std.proofs.lemmas.List.Sums.{take_while-cons}
use Rattle.std.proofs.lemmas.List.Elements.{All-cons}
use Rattle.std.proofs.lemmas.Bool.{ne_eqb, cases_eq, le-leb}
use Rattle.std.proofs.lemmas.Bool.Decides.{nat_tests}
use Rattle.m5_terms.specs.Decimal.{is_digit}
use Rattle.m5_js.specs.Spelling.{slot_text}
use Rattle.m5_js.specs.code.Guess.{and_read, number_in, slot_in}

is_digit_value : (x : ℕ) → digit_value x < 10 → is_digit x ≡ true
is_digit_value x h = let within = digit_from_value x h in grind (arith, nat_tests)

pub digits_all : (ds : List ℕ) → AllDigits 10 ds → AllPass is_digit ds
digits_all [] h = λ k d l. absurd (omega arith)
digits_all (x ∷ ds) h = All-cons (λ y. is_digit y ≡ true) x ds (is_digit_value x h.0) (digits_all ds h.1)

run_taken : (p : ℕ → Bool) (xs : List ℕ) (b : ℕ) (rest : List ℕ) → AllPass p xs → p b ≡ false → take_while p (xs ++ b ∷ rest) ≡ xs
run_taken p [] b rest h fails = take_while-cons p b rest ∙ rw fails refl
run_taken p (x ∷ xs) b rest h fails =
    let first : p x ≡ true = h 0 0 (omega arith) in
    take_while-cons p x (xs ++ b ∷ rest) ∙ rw first (ap (λ (r : List ℕ). x ∷ r) (run_taken p xs b rest (λ k d l. h (suc k) d (omega arith)) fails))

-- a number that was read
abbrev pub read_as : ℕ → List ℕ → Option (ℕ × List ℕ)
read_as n rest = Some (n, rest)

pub number_back : (most n x : ℕ) (r : List ℕ) → n ≤ most → n < 2 ^ 64 → is_digit x ≡ false → number_in most (decimal n ++ x ∷ r) ≡ read_as n (x ∷ r)
number_back most n x r h k d =
    let numeral = decimal_is_IsNumeral n k in
    let run : take_while is_digit (decimal n ++ x ∷ r) ≡ decimal n = run_taken is_digit (decimal n) x r (digits_all (decimal n) numeral.0.1) d in
    let fits : nat_le n most ≡ true = le-leb n most h in
    ap (λ (ds : List ℕ). if nat_le (digits_value 10 ds) most then read_as (digits_value 10 ds) (drop (length ds) (decimal n ++ x ∷ r)) else None) run
    ∙ ap (λ (m : ℕ). if nat_le m most then read_as m (drop (length (decimal n)) (decimal n ++ x ∷ r)) else None) numeral.1
    ∙ ap (λ (t : Bool). if t then read_as n (drop (length (decimal n)) (decimal n ++ x ∷ r)) else None) fits
    ∙ ap (read_as n) (drop_at (decimal n) (x ∷ r) (length (decimal n)) refl)

zero_back : (x : ℕ) (r : List ℕ) → slot_in (slot_text 0 ++ x ∷ r) ≡ read_as 0 (x ∷ r)
unfolding slot_in
zero_back x r = refl

one_back : (x : ℕ) (r : List ℕ) → slot_in (slot_text 1 ++ x ∷ r) ≡ read_as 1 (x ∷ r)
unfolding slot_in
one_back x r = refl

pub later_text : (s : ℕ) → 2 ≤ s → slot_text s ≡ codes "v" ++ decimal (s - 2)
later_text s h = rw (ne_eqb s 0 (λ e. omega arith), ne_eqb s 1 (λ e. omega arith)) refl

constant_back : (n x : ℕ) (r : List ℕ) → n ≤ 65533 → is_digit x ≡ false → slot_in ((codes "v" ++ decimal n) ++ x ∷ r) ≡ read_as (n + 2) (x ∷ r)
unfolding slot_in
constant_back n x r h d = ap (λ (o : Option (ℕ × List ℕ)). and_read o (λ m more. read_as (m + 2) more)) (number_back 65533 n x r h (omega arith) d)

later_back : (s x : ℕ) (r : List ℕ) → 2 ≤ s → s < 2 ^ 16 → is_digit x ≡ false → slot_in (slot_text s ++ x ∷ r) ≡ read_as s (x ∷ r)
later_back s x r l h d =
    ap (λ (t : List ℕ). slot_in (t ++ x ∷ r)) (later_text s l) ∙ constant_back (s - 2) x r (omega arith) d ∙ ap (λ (n : ℕ). read_as n (x ∷ r)) (let e : s - 2 + 2 ≡ s = omega arith in e)

-- a slot is read before what is no digit
pub slot_back : (s x : ℕ) (r : List ℕ) → s < 2 ^ 16 → is_digit x ≡ false → slot_in (slot_text s ++ x ∷ r) ≡ read_as s (x ∷ r)
slot_back s x r h d =
    elim (cases_eq s 0) [
      | inl e ↦ subst (λ (n : ℕ). slot_in (slot_text n ++ x ∷ r) ≡ read_as n (x ∷ r)) (sym e) (zero_back x r)
      | inr f ↦ elim (cases_eq s 1) [
        | inl e ↦ subst (λ (n : ℕ). slot_in (slot_text n ++ x ∷ r) ≡ read_as n (x ∷ r)) (sym e) (one_back x r)
        | inr g ↦ later_back s x r (omega (arith, f, g)) h d
      ]
    ]
