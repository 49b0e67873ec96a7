-- The value of digits, one more digit at a time.
use Rattle.std.proofs.Common.{◌≡◌, ℕ, ◌+◌, ◌-◌, ◌*◌, ◌≤◌, ◌<◌, true, List, [], ◌∷◌, length, drop, get_or, ap, arith}
use Rattle.std.specs.Char.{digit_value}
use Rattle.std.specs.Str.Parse.{digits_value_after}
use Rattle.std.proofs.lemmas.Bool.Decides.{nat_tests}
use Rattle.m5_terms.specs.Decimal.{is_digit}
use Rattle.m5_terms.proofs.Rests.{one_at}

pub digit-value : (x : ℕ) → is_digit x ≡ true → digit_value x ≡ x - 48
digit-value x h = grind (arith, nat_tests)

grows : (n : ℕ) (s : List ℕ) → n ≤ digits_value_after 10 n s
grows n [] = omega arith
grows n (x ∷ s) = omega (arith, grows (n * 10 + digit_value x) s)

pub value_next : (n i : ℕ) (s : List ℕ) → i < length s → is_digit (get_or s i 0) ≡ true → digits_value_after 10 n (drop i s) ≡ digits_value_after 10 (n * 10 + (get_or s i 0 - 48)) (drop (i + 1) s)
value_next n i s h d = rw (one_at s i h) (ap (λ (k : ℕ). digits_value_after 10 (n * 10 + k) (drop (i + 1) s)) (digit-value (get_or s i 0) d))

pub value_above : (n i : ℕ) (s : List ℕ) → i < length s → is_digit (get_or s i 0) ≡ true → n * 10 + (get_or s i 0 - 48) ≤ digits_value_after 10 n (drop i s)
value_above n i s h d = rw (value_next n i s h d) (grows (n * 10 + (get_or s i 0 - 48)) (drop (i + 1) s))
