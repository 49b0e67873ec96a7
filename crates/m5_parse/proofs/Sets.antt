-- Sets of kinds, as lists.
use Rattle.std.proofs.Common.{◌≡◌, ℕ, Bool, true, false, not, ◌||◌, ◌==◌, List, [], ◌∷◌, ◌++◌, refl, ◌⊎◌, inl, inr}
use Rattle.std.proofs.lemmas.Bool.{or_cases, and_parts, both_ways, not-true, eqb-true, false≢true}
use Rattle.m5_tree.specs.Kinds.{code_of}
use Rattle.m5_parse.specs.Kinds.{among}
use Rattle.m5_tree.specs.declared.grammar.Kind.{Kind}
use Rattle.m5_parse.proofs.Tables.{within, apart}

pub or_left : (x y : Bool) → x ≡ true → (x || y) ≡ true
or_left true y h = refl
or_left false y h = absurd (false≢true h)

pub or_right : (x y : Bool) → y ≡ true → (x || y) ≡ true
or_right true y h = refl
or_right false y h = h

pub among-append : (n : ℕ) (xs ys : List Kind) → among n (xs ++ ys) ≡ true → (among n xs ≡ true) ⊎ (among n ys ≡ true)
among-append n [] ys h = inr h
among-append n (x ∷ xs) ys h =
    elim (or_cases (n == code_of x) (among n (xs ++ ys)) h) [
      | inl e ↦ inl (or_left (n == code_of x) (among n xs) e)
      | inr e ↦ elim (among-append n xs ys e) [ inl a ↦ inl (or_right (n == code_of x) (among n xs) a) | inr b ↦ inr b ]
    ]

pub among-left : (n : ℕ) (xs ys : List Kind) → among n xs ≡ true → among n (xs ++ ys) ≡ true
among-left n [] ys h = absurd (false≢true h)
among-left n (x ∷ xs) ys h =
    elim (or_cases (n == code_of x) (among n xs) h) [
      | inl e ↦ or_left (n == code_of x) (among n (xs ++ ys)) e
      | inr e ↦ or_right (n == code_of x) (among n (xs ++ ys)) (among-left n xs ys e)
    ]

pub among-right : (n : ℕ) (xs ys : List Kind) → among n ys ≡ true → among n (xs ++ ys) ≡ true
among-right n [] ys h = h
among-right n (x ∷ xs) ys h = or_right (n == code_of x) (among n (xs ++ ys)) (among-right n xs ys h)

pub among-within : (n : ℕ) (xs ys : List Kind) → within xs ys ≡ true → among n xs ≡ true → among n ys ≡ true
among-within n [] ys w h = absurd (false≢true h)
among-within n (x ∷ xs) ys w h =
    let parts = and_parts (among (code_of x) ys) (within xs ys) w
    in elim (or_cases (n == code_of x) (among n xs) h) [
      | inl e ↦ rw (eqb-true n (code_of x) e) parts.0
      | inr e ↦ among-within n xs ys parts.1 e
    ]

pub among-apart : (n : ℕ) (xs ys : List Kind) → apart xs ys ≡ true → among n xs ≡ true → among n ys ≡ true → ⊥
among-apart n [] ys w h g = false≢true h
among-apart n (x ∷ xs) ys w h g =
    let parts = and_parts (not (among (code_of x) ys)) (apart xs ys) w
    in elim (or_cases (n == code_of x) (among n xs) h) [
      | inl e ↦ both_ways (among (code_of x) ys) (not-true (among (code_of x) ys) parts.0) (rw (← eqb-true n (code_of x) e) g)
      | inr e ↦ among-apart n xs ys parts.1 e g
    ]
