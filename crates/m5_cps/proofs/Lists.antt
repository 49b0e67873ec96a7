-- Items of lists that were made longer.
use Rattle.std.proofs.Common.{◌≡◌, ℕ, zero, suc, ◌+◌, ◌<◌, ◌≤◌, List, [], ◌∷◌, ◌++◌, length, Option, Some, None, slice_get, get_or, refl, ap, sym, arith}

-- what was there stays
pub get_before : {A : Type 0} → (xs ys : List A) (k : ℕ) → k < length xs → slice_get (xs ++ ys) k ≡ slice_get xs k
get_before [] ys k h = absurd (omega (arith, h))
get_before (x ∷ xs) ys zero h = refl
get_before (x ∷ xs) ys (suc k) h = get_before xs ys k (omega (arith, h))

pub get_last : {A : Type 0} → (xs : List A) (y : A) (ys : List A) → slice_get (xs ++ y ∷ ys) (length xs) ≡ Some y
get_last [] y ys = refl
get_last (x ∷ xs) y ys = get_last xs y ys

pub get_past : {A : Type 0} → (xs : List A) (k : ℕ) → length xs ≤ k → slice_get xs k ≡ None
get_past [] k h = refl
get_past (x ∷ xs) zero h = absurd (omega (arith, h))
get_past (x ∷ xs) (suc k) h = get_past xs k (omega (arith, h))

pub length_push : {A : Type 0} → (xs : List A) (y : A) → length (xs ++ y ∷ []) ≡ suc (length xs)
length_push [] y = refl
length_push (x ∷ xs) y = let e : length (xs ++ y ∷ []) ≡ suc (length xs) = length_push xs y in omega (arith, e)

-- an item that was read at an index within the list
pub item_there : {A : Type 0} (xs : List A) (i : ℕ) (x : A) → i < length xs → x ≡ get_or xs i x → slice_get xs i ≡ Some x
item_there [] i x h e = absurd (omega (arith, h))
item_there (y ∷ xs) zero x h e = ap Some (sym e)
item_there (y ∷ xs) (suc i) x h e = item_there xs i x (omega (arith, h)) e
