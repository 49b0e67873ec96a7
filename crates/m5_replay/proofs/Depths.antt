-- The depth that a node knows; and what holds of each item of a list, item by item.
use Rattle.std.proofs.Common.{◌≡◌, ℕ, ◌+◌, ◌<◌, Bool, true, false, ◌&&◌, List, length, take, get_or, nat_le, Some, sym, ap, ◌∙◌, arith}
use Rattle.std.specs.Prelude.{slice_get, min, ◌^◌, ◌-◌}
use Rattle.std.specs.List.{list_all}
use Rattle.std.proofs.lemmas.List.Folds.{list_all_more, list_all_at}
use Rattle.std.proofs.lemmas.Option.{slice_get-get_or}

-- the depth that a node knows, which ends at the greatest number, tells whether it is shallow
pub held : (n d : ℕ) → d ≡ min n (2 ^ 64 - 1) → nat_le d 4096 ≡ nat_le n 4096
held n d h = grind arith

same-some : {A : Type 0} (x y : A) → Some x ≡ Some y → x ≡ y
same-some x y e = cc

item : {A : Type 0} (xs : List A) (i : ℕ) (x : A) → i < length xs → slice_get xs i ≡ Some x → get_or xs i x ≡ x
item xs i x l e = same-some (get_or xs i x) x (sym (slice_get-get_or xs i x l) ∙ e)

-- of one item more
pub one-more : {A : Type 0} (p : A → Bool) (xs : List A) (i : ℕ) (x : A) → i < length xs → slice_get xs i ≡ Some x → list_all p (take i xs) ≡ true → p x ≡ true → list_all p (take (i + 1) xs) ≡ true
one-more p xs i x l e h k = list_all_more p xs i x l ∙ ((λ j. h j && p (item xs i x l e j)) ∙ k)

-- one item of which it does not hold
pub not-of-one : {A : Type 0} (p : A → Bool) (xs : List A) (i : ℕ) (x : A) → i < length xs → slice_get xs i ≡ Some x → p x ≡ false → list_all p xs ≡ false
not-of-one p xs i x l e h = list_all_at p xs i x l (ap p (item xs i x l e) ∙ h)
