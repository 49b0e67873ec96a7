-- An array of nulls whose fields are set one after the other.
use Rattle.std.proofs.Common.{◌≡◌, ℕ, zero, suc, ◌+◌, ◌-◌, ◌<◌, ◌≤◌, ◌∙◌, List, [], ◌∷◌, ◌++◌, length, map, take, get_or, replicate, refl, ap, sym, subst, append_assoc, append-nil, length-append, arith, Option, Some, None, slice_get, slice_set, IsSome, unwrap_or}
use Rattle.std.specs.List.{All}
use Rattle.std.proofs.lemmas.List.{map_more, length-map, length-take-le, length-replicate, take_at, take_all}
use Rattle.m5_region.specs.declared.value.Value.{Value}
use Rattle.m5_region.specs.declared.value.Value.TheVariants.{Null}
use Rattle.m5_region.specs.Region.{Object, ArrayOf, Refers, objects_with_field, field_of, place_in, fields_in}
use Rattle.m5_region.proofs.References.{newest}
use Rattle.m5_machine.specs.Table.{value_at}

-- the first fields are set
abbrev pub fields_at : List Value → List ℕ → ℕ → List Value
fields_at slots xs i = map (value_at slots) (take i xs) ++ replicate (length xs - i) Null

one_null : (n i : ℕ) → i < n → replicate (n - i) Null ≡ Null ∷ replicate (n - (i + 1)) Null
one_null n i h = ap (λ (m : ℕ). replicate m Null) (let e : n - i ≡ suc (n - (i + 1)) = omega arith in e)

open_at : (slots : List Value) (xs : List ℕ) (i : ℕ) → i < length xs → fields_at slots xs i ≡ map (value_at slots) (take i xs) ++ (Null ∷ replicate (length xs - (i + 1)) Null)
open_at slots xs i h = ap (λ (x : List Value). map (value_at slots) (take i xs) ++ x) (one_null (length xs) i h)

set_at : (slots : List Value) (xs : List ℕ) (i : ℕ) → i < length xs → fields_at slots xs (i + 1) ≡ map (value_at slots) (take i xs) ++ (value_at slots (get_or xs i 0) ∷ replicate (length xs - (i + 1)) Null)
set_at slots xs i h =
    ap (λ (x : List Value). x ++ replicate (length xs - (i + 1)) Null) (map_more (value_at slots) xs i 0 h)
    ∙ append_assoc (map (value_at slots) (take i xs)) (value_at slots (get_or xs i 0) ∷ []) (replicate (length xs - (i + 1)) Null)

-- a field that stays null
pub same_fields : (slots : List Value) (xs : List ℕ) (i : ℕ) → i < length xs → value_at slots (get_or xs i 0) ≡ Null → fields_at slots xs i ≡ fields_at slots xs (i + 1)
same_fields slots xs i h e =
    open_at slots xs i h ∙ ap (λ (v : Value). map (value_at slots) (take i xs) ++ (v ∷ replicate (length xs - (i + 1)) Null)) (sym e) ∙ sym (set_at slots xs i h)

pub value_is : (slots : List Value) (s : ℕ) (v : Value) → Some v ≡ slice_get slots s → value_at slots s ≡ v
value_is slots s v e = ap (λ (o : Option Value). unwrap_or o Null) (sym e)

pub value_is_null : (slots : List Value) (s : ℕ) → None ≡ slice_get slots s → value_at slots s ≡ Null
value_is_null slots s e = ap (λ (o : Option Value). unwrap_or o Null) (sym e)

set_middle : (a b : List Value) (w v : Value) (i : ℕ) → i ≡ length a → slice_set (a ++ (w ∷ b)) i v ≡ a ++ (v ∷ b)
set_middle [] b w v zero e = refl
set_middle [] b w v (suc i) e = absurd (omega arith)
set_middle (x ∷ a) b w v zero e = absurd (omega arith)
set_middle (x ∷ a) b w v (suc i) e = ap (λ (y : List Value). x ∷ y) (set_middle a b w v i (omega arith))

-- a field that is set
pub next_fields : (slots : List Value) (xs : List ℕ) (i : ℕ) (v : Value) → i < length xs → value_at slots (get_or xs i 0) ≡ v → slice_set (fields_at slots xs i) i v ≡ fields_at slots xs (i + 1)
next_fields slots xs i v h e =
    ap (λ (x : List Value). slice_set x i v) (open_at slots xs i h)
    ∙ set_middle (map (value_at slots) (take i xs)) (replicate (length xs - (i + 1)) Null) Null v i (omega (arith, length-map (take i xs) (value_at slots), length-take-le i xs (omega arith)))
    ∙ ap (λ (w : Value). map (value_at slots) (take i xs) ++ (w ∷ replicate (length xs - (i + 1)) Null)) (sym e)
    ∙ sym (set_at slots xs i h)

pub none_set : (slots : List Value) (xs : List ℕ) → fields_at slots xs 0 ≡ replicate (length xs) Null
none_set slots xs = ap (λ (m : ℕ). replicate m Null) (let e : length xs - 0 ≡ length xs = omega arith in e)

pub all_set : (slots : List Value) (xs : List ℕ) (n : ℕ) → n ≡ length xs → fields_at slots xs n ≡ map (value_at slots) xs
all_set slots xs n e =
    let whole : take n xs ≡ xs = take_all n xs (omega arith) in
    let none : length xs - n ≡ 0 = omega arith in
    rw (whole, none) (append-nil (map (value_at slots) xs))

-- the newest object, behind those before it
pub last_is : (os : List Object) (at : ℕ) (o : Object) → at + 1 ≡ length os → slice_get os at ≡ Some o → os ≡ take at os ++ o ∷ []
last_is [] at o h e = absurd (omega arith)
last_is (p ∷ []) zero o h e = let same : p ≡ o = cc in ap (λ (q : Object). q ∷ []) same
last_is (p ∷ q ∷ os) zero o h e = absurd (omega arith)
last_is (p ∷ os) (suc at) o h e = ap (λ (x : List Object). p ∷ x) (last_is os at o (omega arith) e)

pub front_length : (os : List Object) (at : ℕ) → at + 1 ≡ length os → length (take at os) ≡ at
front_length os at h = length-take-le at os (omega arith)

-- what is set is a field of the newest object
pub set_last : (front : List Object) (vs : List Value) (at i : ℕ) (v : Value) → at ≡ length front → objects_with_field (front ++ ArrayOf vs ∷ []) at i v ≡ front ++ ArrayOf (slice_set vs i v) ∷ []
set_last [] vs zero i v e = refl
set_last [] vs (suc at) i v e = absurd (omega arith)
set_last (p ∷ front) vs zero i v e = absurd (omega arith)
set_last (p ∷ front) vs (suc at) i v e = ap (λ (x : List Object). p ∷ x) (set_last front vs at i v (omega arith))

value_there : (vs : List Value) (i : ℕ) → i < length vs → IsSome (slice_get vs i)
value_there [] i h = absurd (omega arith)
value_there (v ∷ vs) zero h = refl
value_there (v ∷ vs) (suc i) h = value_there vs i (omega arith)

fields_length : (slots : List Value) (xs : List ℕ) (i : ℕ) → i ≤ length xs → length (fields_at slots xs i) ≡ length xs
fields_length slots xs i h = omega (arith, length-append (map (value_at slots) (take i xs)) (replicate (length xs - i) Null), length-map (take i xs) (value_at slots), length-take-le i xs h, length-replicate (length xs - i) Null)

pub field_there : (front os : List Object) (slots : List Value) (xs : List ℕ) (at i : ℕ) → os ≡ front ++ ArrayOf (fields_at slots xs i) ∷ [] → at ≡ length front → i < length xs → IsSome (field_of os at i)
field_there front os slots xs at i e h k =
    let there : slice_get os at ≡ Some (ArrayOf (fields_at slots xs i)) = ap (λ (x : List Object). slice_get x at) e ∙ ap (slice_get (front ++ ArrayOf (fields_at slots xs i) ∷ [])) h ∙ newest front (ArrayOf (fields_at slots xs i)) in
    subst (λ (o : Option Object). IsSome (place_in (fields_in o) i)) (sym there) (value_there (fields_at slots xs i) i (omega (arith, fields_length slots xs i (omega arith))))

take_front : (front os : List Object) (o : Object) (at : ℕ) → os ≡ front ++ o ∷ [] → at ≡ length front → take at os ≡ front
take_front front os o at e h = ap (take at) e ∙ take_at front (o ∷ []) at (sym h)

pub refers_front : (front os : List Object) (o : Object) (at : ℕ) (v : Value) → os ≡ front ++ o ∷ [] → at ≡ length front → Refers front v → Refers (take at os) v
refers_front front os o at v e h r = subst (λ (x : List Object). Refers x v) (sym (take_front front os o at e h)) r

-- a slot's value refers as the slots do
pub slot_refers : (os : List Object) (slots : List Value) (i : ℕ) (v : Value) → All (Refers os) slots → Some v ≡ slice_get slots i → Refers os v
slot_refers os [] i v h e = absurd (let none : Some v ≡ None = e in cc)
slot_refers os (w ∷ slots) zero v h e = let same : w ≡ v = cc in subst (Refers os) same (h 0 w (omega arith))
slot_refers os (w ∷ slots) (suc i) v h e = slot_refers os slots i v (λ k d l. h (suc k) d (omega arith)) e
