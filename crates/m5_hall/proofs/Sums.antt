-- Sums of one number for each view, and what a change at one place does to them.
use Rattle.std.proofs.Common.{◌≡◌, ◌≢◌, ℕ, zero, suc, ◌+◌, ◌*◌, ◌≤◌, List, [], ◌∷◌, length, set, refl, sym, ap, arith, suc-mul}
use Rattle.std.specs.List.{sum_by}
use Rattle.std.proofs.lemmas.List.Sums.{sum_by-cons}
use mathlib.Core.Option.{some, some-injective, some-ne-none}
use lib.ListN.{get_elem?}

module _ {X : Type 0} (f : X → ℕ) where
  -- a change at one place changes the sum by the difference
  pub sum_changes : (xs : List X) (i : ℕ) (x y : X) → get_elem? xs i ≡ some x → sum_by f (set xs i y) + f x ≡ sum_by f xs + f y
  sum_changes [] i x y e = absurd (some-ne-none x (sym e))
  sum_changes (z ∷ zs) zero x y e =
      let same : f z ≡ f x = ap f (some-injective z x e) in
      omega (arith, sum_by-cons f z zs, sum_by-cons f y zs, same)
  sum_changes (z ∷ zs) (suc i) x y e =
      omega (arith, sum_by-cons f z zs, sum_by-cons f z (set zs i y), sum_changes zs i x y e)

  -- no term is more than the sum
  pub term_below : (xs : List X) (i : ℕ) (x : X) → get_elem? xs i ≡ some x → f x ≤ sum_by f xs
  term_below [] i x e = absurd (some-ne-none x (sym e))
  term_below (z ∷ zs) zero x e = let same : f z ≡ f x = ap f (some-injective z x e) in omega (arith, sum_by-cons f z zs, same)
  term_below (z ∷ zs) (suc i) x e = omega (arith, sum_by-cons f z zs, term_below zs i x e)

  -- nor are two terms
  pub two_below : (xs : List X) (i j : ℕ) (x y : X) → i ≢ j → get_elem? xs i ≡ some x → get_elem? xs j ≡ some y → f x + f y ≤ sum_by f xs
  two_below [] i j x y apart e d = absurd (some-ne-none x (sym e))
  two_below (z ∷ zs) zero zero x y apart e d = absurd (apart refl)
  two_below (z ∷ zs) zero (suc j) x y apart e d = let same : f z ≡ f x = ap f (some-injective z x e) in omega (arith, sum_by-cons f z zs, same, term_below zs j y d)
  two_below (z ∷ zs) (suc i) zero x y apart e d = let same : f z ≡ f y = ap f (some-injective z y d) in omega (arith, sum_by-cons f z zs, same, term_below zs i x e)
  two_below (z ∷ zs) (suc i) (suc j) x y apart e d = omega (arith, sum_by-cons f z zs, two_below zs i j x y (λ same. apart (ap suc same)) e d)

  -- terms that are at most n add up to at most n for each
  pub sum_at_most : (n : ℕ) (xs : List X) → ((i : ℕ) (x : X) → get_elem? xs i ≡ some x → f x ≤ n) → sum_by f xs ≤ length xs * n
  sum_at_most n [] h = omega arith
  sum_at_most n (z ∷ zs) h = omega (arith, sum_by-cons f z zs, h zero z refl, sum_at_most n zs (λ i. h (suc i)), suc-mul (length zs) n)
