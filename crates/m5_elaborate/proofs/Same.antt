-- Tests of sameness that hold, and those that a type passes with itself.
use Rattle.std.proofs.Common.{◌≡◌, Bool, true, false, ◌&&◌, refl, ap}
use Rattle.m5_terms.specs.TypeExpression.{TypeExpression, unit, bool, int, string, address, product, sum, function, list, cell, sham, at, same_type, same_world}
use Rattle.m5_terms.proofs.SiteWorlds.{same-true, same-self}

pub left_true : (a b : Bool) → (a && b) ≡ true → a ≡ true
left_true true b e = refl
left_true false b e = cc

pub right_true : (a b : Bool) → (a && b) ≡ true → b ≡ true
right_true true b e = e
right_true false b e = cc

pub both_true : (a b : Bool) → a ≡ true → b ≡ true → (a && b) ≡ true
both_true true b p q = q
both_true false b p q = cc

pub type_same : (A B : TypeExpression) → same_type A B ≡ true → A ≡ B
type_same unit unit e = refl
type_same bool bool e = refl
type_same int int e = refl
type_same string string e = refl
type_same (address v) (address w) e = ap address (same-true v w e)
type_same (product A B) (product C D) e =
    λ i. product (type_same A C (left_true (same_type A C) (same_type B D) e) i) (type_same B D (right_true (same_type A C) (same_type B D) e) i)
type_same (sum A B) (sum C D) e =
    λ i. sum (type_same A C (left_true (same_type A C) (same_type B D) e) i) (type_same B D (right_true (same_type A C) (same_type B D) e) i)
type_same (function A B) (function C D) e =
    λ i. function (type_same A C (left_true (same_type A C) (same_type B D) e) i) (type_same B D (right_true (same_type A C) (same_type B D) e) i)
type_same (list A) (list B) e = ap list (type_same A B e)
type_same (cell A) (cell B) e = ap cell (type_same A B e)
type_same (sham A) (sham B) e = ap sham (type_same A B e)
type_same (at A v) (at B w) e =
    λ i. at (type_same A B (left_true (same_type A B) (same_world v w) e) i) (same-true v w (right_true (same_type A B) (same_world v w) e) i)
type_same _ _ e = cc

pub type_self : (A : TypeExpression) → same_type A A ≡ true
type_self unit = refl
type_self bool = refl
type_self int = refl
type_self string = refl
type_self (address w) = same-self w
type_self (product A B) = both_true (same_type A A) (same_type B B) (type_self A) (type_self B)
type_self (sum A B) = both_true (same_type A A) (same_type B B) (type_self A) (type_self B)
type_self (function A B) = both_true (same_type A A) (same_type B B) (type_self A) (type_self B)
type_self (list A) = type_self A
type_self (cell A) = type_self A
type_self (sham A) = type_self A
type_self (at A w) = both_true (same_type A A) (same_world w w) (type_self A) (same-self w)
