-- The machine's quotient is the wrapped one.
use Rattle.std.proofs.Common.{◌≡◌, ◌≢◌, ◌<◌, ◌≤◌, ◌/◌, ◌∙◌, ℕ, zero, suc, Bool, true, false, nat_lt, refl, sym, subst, w64, FitsSigned, arith}
use Rattle.std.specs.Prelude.{ℤ, pos, negsuc, int_div}
use Rattle.std.specs.Int.{int_wrap, int_wrapping_div}
use Rattle.std.specs.Int.RustNames.{unsigned_abs}
use Rattle.std.proofs.Math.IntN.{neg_ℤ}
use Rattle.std.proofs.Math.Facts.{yes_ltb}
use Rattle.std.proofs.Math.Nat.{div-one, div-le_self, div-lt_self}
use Rattle.std.proofs.lemmas.Bool.{ltb-true, ltb-false}
use Rattle.std.proofs.lemmas.Int.{to_z-of_z, int_wrap_fits, quot_fits, fits_signed_from_abs}
use Rattle.m5_meaning.specs.Numbers.{quotient}

abs_neg : (n : ℕ) → unsigned_abs (neg_ℤ (pos n)) ≡ n
abs_neg zero = refl
abs_neg (suc n) = refl

fitting : (a b : ℤ) → FitsSigned w64 (int_div a b) → int_wrapping_div w64 a b ≡ quotient a b
fitting a b f = to_z-of_z w64 (int_div a b) f ∙ sym (int_wrap_fits w64 (int_div a b) f)

least : int_wrapping_div w64 (negsuc 9223372036854775807) (negsuc 0) ≡ quotient (negsuc 9223372036854775807) (negsuc 0)
unfolding int_wrap
least = refl

pub wraps : (a b : ℤ) → FitsSigned w64 a → b ≢ pos 0 → int_wrapping_div w64 a b ≡ quotient a b
wraps a (pos zero) f h = absurd (h refl)
wraps a (pos (suc b)) f h = fitting a (pos (suc b)) (quot_fits w64 a (pos (suc b)) f (record { lt = yes_ltb (omega arith) }))
wraps (pos a) (negsuc b) f h = fitting (pos a) (negsuc b) (fits_signed_from_abs w64 _ (rw (abs_neg (a / suc b)) (omega (arith, f.sfits, div-le_self a (suc b)))))
wraps (negsuc a) (negsuc (suc b)) f h = fitting (negsuc a) (negsuc (suc b)) (fits_signed_from_abs w64 _ (omega (arith, f.sfits, div-lt_self {n = suc a} {k = suc (suc b)} (omega arith) (omega arith))))
wraps (negsuc a) (negsuc zero) f h = by_test (nat_lt (suc a) 9223372036854775808) refl
  where
    by_test : (t : Bool) → nat_lt (suc a) 9223372036854775808 ≡ t → int_wrapping_div w64 (negsuc a) (negsuc zero) ≡ quotient (negsuc a) (negsuc zero)
    by_test true e = fitting (negsuc a) (negsuc zero) (fits_signed_from_abs w64 _ (let q : suc a < 9223372036854775808 = ltb-true _ _ e in omega (arith, q, div-one (suc a))))
    by_test false e =
        let q : 9223372036854775808 ≤ suc a = ltb-false _ _ e in
        let g : 9223372036854775807 ≡ a = omega (arith, q, f.sfits) in
        subst (λ n. int_wrapping_div w64 (negsuc n) (negsuc zero) ≡ quotient (negsuc n) (negsuc zero)) g least
