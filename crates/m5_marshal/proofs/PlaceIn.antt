-- The place of a pair among pairs that rise.
use Rattle.std.proofs.Common.{◌≡◌, ℕ, zero, suc, ◌<◌, ◌≤◌, true, List, [], ◌∷◌, ◌++◌, length, take, Some, None, slice_get, slice_index_or, refl, sym, ap, subst, ◌∙◌, arith, inl, inr}
use Rattle.std.proofs.lemmas.Bool.{cases_lt}
use Rattle.m5_message.specs.Packing.{Reached, has, place_in}
use Rattle.m5_message.proofs.Marks.{has_head, has_tail, place_there}
use Rattle.m5_marshal.specs.declared.key.Key.{Key}
use Rattle.m5_marshal.specs.code.Keys.{reached, marks, rank, Rising}
use Rattle.m5_marshal.proofs.Marked.{all_at}

some_is : {A : Type 0} (x y : A) → Some x ≡ Some y → x ≡ y
some_is x y e = cc

pub has_get : (ps : List Reached) (j : ℕ) (q : Reached) → slice_get ps j ≡ Some q → has ps q ≡ true
has_get [] j q e = absurd (let none : None ≡ Some q = e in cc)
has_get (p ∷ ps) zero q e = subst (λ (x : Reached). has (p ∷ ps) x ≡ true) (some_is p q e) (has_head p ps)
has_get (p ∷ ps) (suc j) q e = has_tail p ps q (has_get ps j q e)

rising_ranks : (ps : List Reached) (i j : ℕ) (p q : Reached) → Rising ps → slice_get ps i ≡ Some p → slice_get ps j ≡ Some q → i < j → rank p < rank q
unfolding Rising
rising_ranks [] i j p q h a b lt = absurd (let none : None ≡ Some p = a in cc)
rising_ranks (x ∷ ps) i zero p q h a b lt = absurd (omega arith)
rising_ranks (x ∷ ps) zero (suc j) p q h a b lt = subst (λ (y : Reached). rank y < rank q) (some_is x p a) (all_at (λ y. rank x < rank y) ps q h.0 (has_get ps j q b))
rising_ranks (x ∷ ps) (suc i) (suc j) p q h a b lt = rising_ranks ps i j p q h.1 a b (omega arith)

pub place_above : (ps : List Reached) (k p : Reached) (n : ℕ) → Rising ps → has ps k ≡ true → slice_get ps n ≡ Some p → rank p < rank k → n < place_in ps k
place_above ps k p n rises there get lt =
    let at = place_there ps k there in
    elim (cases_lt n (place_in ps k)) [
      | inl below ↦ below
      | inr le ↦ elim (cases_lt (place_in ps k) n) [
        | inl below ↦ (let up = rising_ranks ps (place_in ps k) n k p rises at get below in absurd (omega arith))
        | inr same ↦ (
            let is : place_in ps k ≡ n = omega arith in
            let one : k ≡ p = some_is k p (sym at ∙ ap (slice_get ps) is ∙ get) in
            let wrong : rank p < rank p = subst (λ (x : Reached). rank p < rank x) one lt in
            absurd (omega arith)
            )
      ]
    ]

pub place_not_above : (ps : List Reached) (k p : Reached) (n : ℕ) → Rising ps → has ps k ≡ true → slice_get ps n ≡ Some p → rank k ≤ rank p → place_in ps k ≤ n
place_not_above ps k p n rises there get le =
    elim (cases_lt n (place_in ps k)) [
      | inl below ↦ (let up = rising_ranks ps n (place_in ps k) p k rises get (place_there ps k there) below in absurd (omega arith))
      | inr h ↦ h
    ]

pub marks_get : (ks : List Key) (n : ℕ) (k : Key) → slice_get ks n ≡ Some k → slice_get (marks ks) n ≡ Some (reached k)
marks_get [] n k e = absurd (let none : None ≡ Some k = e in cc)
marks_get (x ∷ ks) zero k e = ap (λ (y : Key). Some (reached y)) (let same : x ≡ k = cc in same)
marks_get (x ∷ ks) (suc n) k e = marks_get ks n k e

pub take_next : {A : Type 0} (xs : List A) (n : ℕ) (x : A) → slice_get xs n ≡ Some x → take (suc n) xs ≡ take n xs ++ x ∷ []
take_next [] n x e = absurd (let none : None ≡ Some x = e in cc)
take_next (y ∷ xs) zero x e = ap (λ (z : _). z ∷ []) (let same : y ≡ x = cc in same)
take_next (y ∷ xs) (suc n) x e = ap (λ (z : List _). y ∷ z) (take_next xs n x e)

pub index_get : {A : Type 0} (xs : List A) (n : ℕ) (d : A) → n < length xs → slice_get xs n ≡ Some (slice_index_or xs n d)
index_get [] n d h = absurd (omega arith)
index_get (x ∷ xs) zero d h = refl
index_get (x ∷ xs) (suc n) d h = index_get xs n d (omega arith)
