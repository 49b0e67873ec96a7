-- An id stands for one type, and lists that agree place by place.
use Rattle.std.proofs.Common.{◌≡◌, ◌∙◌, ℕ, zero, suc, List, [], ◌∷◌, map, length, Some, None, slice_get, refl, ap, subst}
use Rattle.std.specs.List.{AllZip}
use Rattle.m5_dictionary.specs.declared.line.TypeLine.{TypeLine}
use Rattle.m5_dictionary.specs.declared.line.TypeLine.TheVariants as lines
use Rattle.m5_dictionary.specs.Dictionaries.{IsTypeTable}
use Rattle.m5_dict.specs.Standing.{Sent, unit, bool, int, text, pair, sum, list, fun, cell, address, Stands}

pub one_id : (L : List TypeLine) → IsTypeTable L → (T : Sent) (i j : ℕ) → Stands L i T → Stands L j T → i ≡ j
one_id L h unit i j a b = h.once i j _ a b
one_id L h bool i j a b = h.once i j _ a b
one_id L h int i j a b = h.once i j _ a b
one_id L h text i j a b = h.once i j _ a b
one_id L h (pair S T) i j a b =
    let p : a.first ≡ b.first = one_id L h S a.first b.first a.first_stands b.first_stands in
    let q : a.second ≡ b.second = one_id L h T a.second b.second a.second_stands b.second_stands in
    h.once i j (lines.Pair b.first b.second) (a.is ∙ ap (λ n. Some (lines.Pair n a.second)) p ∙ ap (λ n. Some (lines.Pair b.first n)) q) b.is
one_id L h (sum S T) i j a b =
    let p : a.first ≡ b.first = one_id L h S a.first b.first a.first_stands b.first_stands in
    let q : a.second ≡ b.second = one_id L h T a.second b.second a.second_stands b.second_stands in
    h.once i j (lines.Sum b.first b.second) (a.is ∙ ap (λ n. Some (lines.Sum n a.second)) p ∙ ap (λ n. Some (lines.Sum b.first n)) q) b.is
one_id L h (list T) i j a b = h.once i j (lines.List b.part) (a.is ∙ ap (λ n. Some (lines.List n)) (one_id L h T a.part b.part a.stands b.stands)) b.is
one_id L h (fun T) i j a b = h.once i j (lines.Fun b.part) (a.is ∙ ap (λ n. Some (lines.Fun n)) (one_id L h T a.part b.part a.stands b.stands)) b.is
one_id L h cell i j a b = h.once i j _ a b
one_id L h (address w) i j a b = h.once i j _ a b

pub none_is : {A : Type 0} (x : A) → None ≡ Some x → ⊥
none_is x e = cc

-- what stands at a place of the second list has something at the place of the first
pub zip_first : {A B : Type 0} (R : A → B → Type 0) (xs : List A) (ys : List B) (n : ℕ) (y : B) → AllZip R xs ys → slice_get ys n ≡ Some y → (x : A) × (slice_get xs n ≡ Some x) × R x y
zip_first R [] [] n y z e = absurd (none_is y e)
zip_first R [] (b ∷ ys) n y z e = absurd z
zip_first R (a ∷ xs) [] n y z e = absurd z
zip_first R (a ∷ xs) (b ∷ ys) zero y z e = (a, refl, subst (R a) (let q : b ≡ y = cc in q) z.0)
zip_first R (a ∷ xs) (b ∷ ys) (suc n) y z e = zip_first R xs ys n y z.1 e

pub zip_second : {A B : Type 0} (R : A → B → Type 0) (xs : List A) (ys : List B) (n : ℕ) (x : A) → AllZip R xs ys → slice_get xs n ≡ Some x → (y : B) × (slice_get ys n ≡ Some y) × R x y
zip_second R [] [] n x z e = absurd (none_is x e)
zip_second R [] (b ∷ ys) n x z e = absurd z
zip_second R (a ∷ xs) [] n x z e = absurd z
zip_second R (a ∷ xs) (b ∷ ys) zero x z e = (b, refl, subst (λ c. R c b) (let q : a ≡ x = cc in q) z.0)
zip_second R (a ∷ xs) (b ∷ ys) (suc n) x z e = zip_second R xs ys n x z.1 e

pub as_many : {A B : Type 0} (R : A → B → Type 0) (xs : List A) (ys : List B) → AllZip R xs ys → length xs ≡ length ys
as_many R [] [] z = refl
as_many R [] (y ∷ ys) z = absurd z
as_many R (x ∷ xs) [] z = absurd z
as_many R (x ∷ xs) (y ∷ ys) z = ap suc (as_many R xs ys z.1)

pub map_back : {A B : Type 0} (f : A → B) (xs : List A) (n : ℕ) (y : B) → slice_get (map f xs) n ≡ Some y → (x : A) × (slice_get xs n ≡ Some x) × (f x ≡ y)
map_back f [] n y e = absurd (none_is y e)
map_back f (x ∷ xs) zero y e = (x, refl, (cc))
map_back f (x ∷ xs) (suc n) y e = map_back f xs n y e
