-- The fields of an object that is one of a type, as a region has them.
use Rattle.std.proofs.Common.{◌≡◌, ℕ, zero, suc, ◌+◌, ◌<◌, ◌≤◌, List, [], ◌∷◌, ◌++◌, length, take, drop, Option, Some, None, slice_get, refl, sym, ap, subst, ◌∙◌, append_assoc, append-nil, arith, IsSome, IsSomeAnd, pos, ℤ}
use Rattle.std.specs.Prelude.{unwrap_or}
use Rattle.m5_region.specs.declared.value.Value.{Value}
use Rattle.m5_region.specs.declared.value.Value.TheVariants as values
use Rattle.m5_region.specs.Region.{Object, ArrayOf, ReferToOlder, fields_in, fields_of, field_of, place_in}
use Rattle.m5_dictionary.specs.Dictionaries.{Dictionaries}
use Rattle.m5_message.specs.Reading.{Opening, Whole, Parts, is_object_line}
use Rattle.m5_message.specs.Message.{label_in}
use Rattle.m5_message.specs.Spelling.{opening_in, AreOf, Closes}
use Rattle.m5_message.specs.Packing.{Reached, IsFit, value_reaches, values_reach}
use Rattle.m5_marshal.specs.declared.key.Key.{Key}
use Rattle.m5_marshal.specs.declared.opening.Opened.{Opened}
use Rattle.m5_marshal.specs.declared.opening.Opened.TheVariants as kept
use Rattle.m5_marshal.specs.code.Opened.{others_of}
use Rattle.m5_marshal.specs.code.Keys.{reached, OpensAs, HasFields, IsThere}

pub are_of_count : (d : Dictionaries) (R : ℕ → ℕ → Type 0) (ids : List ℕ) (vs : List Value) → AreOf d R ids vs → length vs ≡ length ids
unfolding AreOf
are_of_count d R [] [] h = refl
are_of_count d R [] (v ∷ vs) h = absurd h
are_of_count d R (id ∷ ids) [] h = absurd h
are_of_count d R (id ∷ ids) (v ∷ vs) h = ap suc (are_of_count d R ids vs h.1)

some_is : {A : Type 0} (x y : A) → Some x ≡ Some y → x ≡ y
some_is x y e = cc

-- a fit object closes as it is opened
pub fit_closes : (d : Dictionaries) (os : List Object) (q : Reached) (o : Object) (p : Opening) → slice_get os q.at ≡ Some o → IsFit d os q (slice_get os q.at) → opening_in d q.id (slice_get d.types q.id) o ≡ Some p → Closes d (λ id j. (j < q.at) × (id < length d.types)) p o
fit_closes d os q o p is fit e =
    let f = subst (λ (x : Option Object). IsFit d os q x) is fit in
    subst (λ (x : Opening). Closes d (λ id j. (j < q.at) × (id < length d.types)) x o) (some_is f.0 p (sym f.1 ∙ e)) f.2

array_there : (os : List Object) (at n : ℕ) (o : Object) (vs : List Value) → slice_get os at ≡ Some o → o ≡ ArrayOf vs → ReferToOlder os → n ≡ length vs → HasFields os at n × (n < 65536)
array_there os at n o vs is array older e =
    let there : slice_get os at ≡ Some (ArrayOf vs) = is ∙ ap Some array in
    let follows = older at (ArrayOf vs) there in
    (rw there (omega (arith, e)), omega (arith, follows.1, e))

pub opened_there : (d : Dictionaries) (os : List Object) (k : Key) (r : Opened) → IsFit d os (reached k) (slice_get os k.at) → OpensAs d os k r → ReferToOlder os → IsThere os k.at r
opened_there d os k (kept.Whole bytes) fit h older =
    let c = fit_closes d os (reached k) h.0 (Whole bytes.now) h.1 fit h.2 in
    rw (h.1) (rw (c.0) refl)
opened_there d os k (kept.Pair others) fit h older =
    let c = fit_closes d os (reached k) h.0 (Parts [] (others_of others)) h.1 fit h.2 in
    array_there os k.at (0 + length (others_of others)) h.0 c.0 h.1 c.1 older (omega (arith, are_of_count d _ (others_of others) c.0 c.2))
opened_there d os k (kept.Parts first others) fit h older =
    let c = fit_closes d os (reached k) h.0 (Parts (first ∷ []) (others_of others)) h.1 fit h.2 in
    array_there os k.at (1 + length (others_of others)) h.0 (first ∷ c.0) h.1 c.1 older (omega (arith, are_of_count d _ (others_of others) c.0 c.2))

-- ---- the fields one after the other

get_below : {A : Type 0} (vs : List A) (k : ℕ) → k < length vs → IsSome (slice_get vs k)
get_below [] k h = absurd (omega arith)
get_below (v ∷ vs) zero h = refl
get_below (v ∷ vs) (suc k) h = get_below vs k (omega arith)

pub field_there : (os : List Object) (at n place : ℕ) → HasFields os at n → place < n → IsSome (field_of os at place)
field_there os at n place h lt = by_fields (fields_of os at) h
  where
    by_fields : (m : Option (List Value)) → IsSomeAnd m (λ vs. n ≤ length vs) → IsSome (place_in m place)
    by_fields None k = absurd k
    by_fields (Some vs) k = get_below vs place (omega (arith, k))

get_drop : {A : Type 0} (vs : List A) (n k : ℕ) → slice_get (drop n vs) k ≡ slice_get vs (n + k)
get_drop vs zero k = ap (slice_get vs) (omega arith)
get_drop [] (suc n) k = refl
get_drop (v ∷ vs) (suc n) k = get_drop vs n k ∙ ap (slice_get (v ∷ vs)) (let e : suc (n + k) ≡ suc n + k = omega arith in e)

pub field_behind : (os : List Object) (at first place : ℕ) (v : Value) → field_of os at (first + place) ≡ Some v → slice_get (drop first (unwrap_or (fields_of os at) [])) place ≡ Some v
field_behind os at first place v e = by_fields (fields_of os at) e
  where
    by_fields : (m : Option (List Value)) → place_in m (first + place) ≡ Some v → slice_get (drop first (unwrap_or m [])) place ≡ Some v
    by_fields None h = absurd (let none : None ≡ Some v = h in cc)
    by_fields (Some vs) h = get_drop vs first place ∙ h

pub reach_none : (d : Dictionaries) (ids : List ℕ) (vs : List Value) → values_reach d (take 0 ids) vs ≡ []
unfolding values_reach
reach_none d ids vs = refl

pub reach_next : (d : Dictionaries) (ids : List ℕ) (vs : List Value) (place next id : ℕ) (v : Value) → next ≡ suc place → slice_get ids place ≡ Some id → slice_get vs place ≡ Some v → values_reach d (take next ids) vs ≡ values_reach d (take place ids) vs ++ value_reaches (is_object_line (slice_get d.types id)) id v
unfolding values_reach
reach_next d ids vs place next id v e there value = rw e (go ids vs place there value)
  where
    go : (ids : List ℕ) (vs : List Value) (place : ℕ) → slice_get ids place ≡ Some id → slice_get vs place ≡ Some v → values_reach d (take (suc place) ids) vs ≡ values_reach d (take place ids) vs ++ value_reaches (is_object_line (slice_get d.types id)) id v
    go [] vs place h k = absurd (let none : None ≡ Some id = h in cc)
    go (i ∷ ids) [] place h k = absurd (let none : None ≡ Some v = k in cc)
    go (i ∷ ids) (x ∷ vs) zero h k =
        let is : i ≡ id = some_is i id h in
        let same : x ≡ v = some_is x v k in
        rw (is, same) (append-nil (value_reaches (is_object_line (slice_get d.types id)) id v))
    go (i ∷ ids) (x ∷ vs) (suc place) h k =
        ap (λ (r : List Reached). value_reaches (is_object_line (slice_get d.types i)) i x ++ r) (go ids vs place h k)
        ∙ sym (append_assoc (value_reaches (is_object_line (slice_get d.types i)) i x) (values_reach d (take place ids) vs) (value_reaches (is_object_line (slice_get d.types id)) id v))

-- ---- the label of a closure

pub label_number : (m : Option Object) (l : ℕ) (n : ℤ) → place_in (fields_in m) 0 ≡ Some (values.Int n) → label_in m ≡ Some l → n ≡ pos l
label_number (Some (ArrayOf (values.Int (pos k) ∷ vs))) l n e is =
    let same : values.Int (pos k) ≡ values.Int n = some_is _ _ e in
    let one : k ≡ l = some_is k l is in
    let number : pos k ≡ n = int_is (pos k) n same in
    sym number ∙ ap pos one
  where
    int_is : (a b : ℤ) → values.Int a ≡ values.Int b → a ≡ b
    int_is a b e = cc
label_number m l n e is = absurd (let none : None ≡ Some l = is in cc)

pub label_there : (m : Option Object) (l : ℕ) → label_in m ≡ Some l → IsSome (place_in (fields_in m) 0)
label_there (Some (ArrayOf (values.Int (pos k) ∷ vs))) l is = refl
label_there m l is = absurd (let none : None ≡ Some l = is in cc)
