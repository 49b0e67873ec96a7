-- The quotient of two numbers of 64 bits fits 64 bits, or it is that by minus one.
use Rattle.std.proofs.Common.{◌≡◌, ◌≢◌, ℕ, zero, suc, ◌/◌, ◌∙◌, refl, sym, ap, w64, FitsSigned, to_z, of_z, arith}
use Rattle.std.specs.Prelude.{ℤ, pos, negsuc, int_div}
use Rattle.std.specs.Int.{int_wrap, int_wrapping_neg, int_wrapping_div}
use Rattle.std.specs.Int.RustNames.{unsigned_abs}
use Rattle.std.proofs.Math.IntN.{neg_ℤ}
use Rattle.std.proofs.Math.Facts.{yes_ltb}
use Rattle.std.proofs.Math.Nat.{div-one, div-le_self, div-lt_self}
use Rattle.std.proofs.lemmas.Int.{to_z-of_z, int_wrap_fits, wrapping_neg_is, quot_fits, fits_signed_from_abs}
use Rattle.m5_meaning.specs.Numbers.{quotient}

by_minus_one : (a : ℤ) → int_div a (negsuc 0) ≡ neg_ℤ a
by_minus_one (pos n) = ap (λ (m : ℕ). neg_ℤ (pos m)) (div-one n)
by_minus_one (negsuc n) = ap pos (div-one (suc n))

negated : (a b : ℤ) → FitsSigned w64 a → b ≡ negsuc 0 → int_wrapping_neg w64 a ≡ quotient a b
negated a b f e = wrapping_neg_is w64 a f ∙ ap (int_wrap w64) (sym (ap (int_div a) e ∙ by_minus_one a))

abs-neg : (n : ℕ) → unsigned_abs (neg_ℤ (pos n)) ≡ n
abs-neg zero = refl
abs-neg (suc n) = refl

fits : (a b : ℤ) → FitsSigned w64 a → b ≢ negsuc 0 → b ≢ pos 0 → FitsSigned w64 (int_div a b)
fits a (pos zero) f g h = absurd (h refl)
fits a (pos (suc b)) f g h = quot_fits w64 a (pos (suc b)) f (record { lt = yes_ltb (omega arith) })
fits a (negsuc zero) f g h = absurd (g refl)
fits (pos a) (negsuc (suc b)) f g h = fits_signed_from_abs w64 _ (rw (abs-neg (a / suc (suc b))) (omega (arith, f.sfits, div-le_self a (suc (suc b)))))
fits (negsuc a) (negsuc (suc b)) f g h = fits_signed_from_abs w64 _ (omega (arith, f.sfits, div-lt_self {n = suc a} {k = suc (suc b)} (omega arith) (omega arith)))

divided : (a b : ℤ) → FitsSigned w64 a → b ≢ negsuc 0 → b ≢ pos 0 → int_wrapping_div w64 a b ≡ quotient a b
divided a b f g h = to_z-of_z w64 (int_div a b) (fits a b f g h) ∙ sym (int_wrap_fits w64 (int_div a b) (fits a b f g h))

minus_one : (b : ℤ) → FitsSigned w64 b → of_z w64 b ≡ 18446744073709551615 → b ≡ negsuc 0
minus_one b g p = sym (to_z-of_z w64 b g) ∙ ap (to_z w64) p

-- what the code's negation and division give
pub negation_read : (a b r : ℤ) → FitsSigned w64 a → FitsSigned w64 b → of_z w64 b ≡ 18446744073709551615 → FitsSigned w64 r → r ≡ int_wrapping_neg w64 (to_z w64 (of_z w64 a)) → to_z w64 (of_z w64 r) ≡ quotient a b
negation_read a b r f g p h e = to_z-of_z w64 r h ∙ (e ∙ (ap (int_wrapping_neg w64) (to_z-of_z w64 a f) ∙ negated a b f (minus_one b g p)))

pub division_read : (a b r : ℤ) → FitsSigned w64 a → FitsSigned w64 b → (of_z w64 b ≡ 18446744073709551615 → ⊥) → b ≢ pos 0 → FitsSigned w64 r → r ≡ int_wrapping_div w64 (to_z w64 (of_z w64 a)) (to_z w64 (of_z w64 b)) → to_z w64 (of_z w64 r) ≡ quotient a b
division_read a b r f g n z h e =
    let read : int_wrapping_div w64 (to_z w64 (of_z w64 a)) (to_z w64 (of_z w64 b)) ≡ int_wrapping_div w64 a b = ap (λ (x : ℤ). int_wrapping_div w64 x (to_z w64 (of_z w64 b))) (to_z-of_z w64 a f) ∙ ap (int_wrapping_div w64 a) (to_z-of_z w64 b g) in
    to_z-of_z w64 r h ∙ (e ∙ (read ∙ divided a b f (λ q. n (ap (of_z w64) q)) z))
