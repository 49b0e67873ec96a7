-- What was spelled is read back.
use Rattle.std.proofs.Common.{◌%◌, ◌≡◌, ℕ, zero, suc, ◌-◌, ◌*◌, ◌<◌, ◌^◌, ◌∙◌, List, [], ◌∷◌, ◌++◌, length, map, take, drop, replicate, refl, ap, sym, append_assoc, arith, length-append, length-drop, append-nil, Some, true, false, slice_get}
use Rattle.std.specs.Int.{w64, to_be_bytes, from_be_bytes}
use Rattle.std.specs.List.{flat_map, AllByRecursion}
use Rattle.std.proofs.lemmas.Nat.{from_be_bytes-to_be_bytes_8}
use Rattle.std.proofs.lemmas.Int.{to_z-of_z, ints}
use Rattle.std.proofs.lemmas.List.{take-append-le, drop-append-le, take-append-drop, take_at, length-replicate}
use Rattle.std.proofs.lemmas.List.Elements.{recursion_from_All}
use Rattle.m5_region.specs.declared.value.Value.{Value}
use Rattle.m5_region.specs.declared.value.Value.TheVariants.{Null, Bool as Truth, Int, Text, Array}
use Rattle.m5_region.specs.Units.{kind_of, number_of, value_of, HasNumber}
use Rattle.m5_region.specs.Region.{Object, ArrayOf, TextOf}
use Rattle.m5_region.specs.Layout.{kinds_of, word_of, content_of, text_units, all_kinds, all_content}
use Rattle.m5_region.specs.code.Stored.{Gathered, gather, gathered, objects_in}
use Rattle.m5_region.specs.Region.{MayFollow}

low : (n : ℕ) → n < 2 ^ 32 → n % 2 ^ 32 ≡ n
low n h = omega arith

value_back : (v : Value) → HasNumber v → value_of (kind_of v) (number_of v) ≡ v
value_back Null h = refl
value_back (Truth false) h = refl
value_back (Truth true) h = refl
value_back (Int n) h = ap Int (to_z-of_z w64 n h)
value_back (Text r) h = ap (λ (n : ℕ). Text (record { 0 = n })) (low r.0 h)
value_back (Array r) h = ap (λ (n : ℕ). Array (record { 0 = n })) (low r.0 h)

small : (v : Value) → HasNumber v → number_of v < 2 ^ 64
small Null h = omega arith
small (Truth false) h = omega arith
small (Truth true) h = omega arith
small (Int n) h = omega (arith, ints)
small (Text r) h = omega arith
small (Array r) h = omega arith

pub word_back : (v : Value) → HasNumber v → value_of (kind_of v) (from_be_bytes w64 (word_of v)) ≡ v
word_back v h = ap (value_of (kind_of v)) (from_be_bytes-to_be_bytes_8 (number_of v) (small v h)) ∙ value_back v h

-- a value's unit before what is gathered
value_unit : (v : Value) (g : Gathered) → HasNumber v → gather (kind_of v) (word_of v) g ≡ record { values = v ∷ g.values; bytes = g.bytes; objects = g.objects }
value_unit Null g h = refl
value_unit (Truth b) g h = ap (λ (w : Value). record { values = w ∷ g.values; bytes = g.bytes; objects = g.objects }) (word_back (Truth b) h)
value_unit (Int n) g h = ap (λ (w : Value). record { values = w ∷ g.values; bytes = g.bytes; objects = g.objects }) (word_back (Int n) h)
value_unit (Text r) g h = ap (λ (w : Value). record { values = w ∷ g.values; bytes = g.bytes; objects = g.objects }) (word_back (Text r) h)
value_unit (Array r) g h = ap (λ (w : Value). record { values = w ∷ g.values; bytes = g.bytes; objects = g.objects }) (word_back (Array r) h)

fields_back : (vs : List Value) (ks bs : List ℕ) → AllByRecursion HasNumber vs → gathered (map kind_of vs ++ ks) (flat_map word_of vs ++ bs) ≡ record { values = vs ++ (gathered ks bs).values; bytes = (gathered ks bs).bytes; objects = (gathered ks bs).objects }
unfolding gathered
fields_back [] ks bs h = refl
fields_back (v ∷ vs) ks bs h =
    ap (gather (kind_of v) (word_of v)) (fields_back vs ks bs h.1) ∙ value_unit v _ h.0

letters_back : (n : ℕ) (bytes ks bs : List ℕ) → length bytes ≡ 8 * n → gathered (replicate n 7 ++ ks) (bytes ++ bs) ≡ record { values = (gathered ks bs).values; bytes = bytes ++ (gathered ks bs).bytes; objects = (gathered ks bs).objects }
unfolding gathered
letters_back zero [] ks bs h = refl
letters_back zero (b ∷ bytes) ks bs h = absurd (omega arith)
letters_back (suc n) bytes ks bs h =
    let front : take 8 (bytes ++ bs) ≡ take 8 bytes = take-append-le 8 bytes bs (omega arith) in
    let back : drop 8 (bytes ++ bs) ≡ drop 8 bytes ++ bs = drop-append-le 8 bytes bs (omega arith) in
    let again = letters_back n (drop 8 bytes) ks bs (omega (arith, length-drop 8 bytes)) in
    rw (front, back, again) (ap (λ (x : List ℕ). record { values = (gathered ks bs).values; bytes = x; objects = (gathered ks bs).objects }) (sym (append_assoc (take 8 bytes) (drop 8 bytes) (gathered ks bs).bytes) ∙ ap (λ (x : List ℕ). x ++ (gathered ks bs).bytes) (take-append-drop 8 bytes)))

array_back : (vs : List Value) (ks bs : List ℕ) → AllByRecursion HasNumber vs → (gathered ks bs).values ≡ [] → gathered (kinds_of (ArrayOf vs) ++ ks) (content_of (ArrayOf vs) ++ bs) ≡ record { values = []; bytes = []; objects = ArrayOf vs ∷ (gathered ks bs).objects }
unfolding gathered
array_back vs ks bs h e =
    ap (gather 5 (to_be_bytes w64 (length vs))) (fields_back vs ks bs h)
    ∙ ap (λ (x : List Value). record { values = []; bytes = []; objects = ArrayOf x ∷ (gathered ks bs).objects }) (ap (λ (x : List Value). vs ++ x) e ∙ append-nil vs)

taken : (bytes pad rest : List ℕ) → length bytes < 2 ^ 64 → rest ≡ [] → take (from_be_bytes w64 (to_be_bytes w64 (length bytes))) ((bytes ++ pad) ++ rest) ≡ bytes
taken bytes pad rest h e =
    ap (λ (n : ℕ). take n ((bytes ++ pad) ++ rest)) (from_be_bytes-to_be_bytes_8 (length bytes) h)
    ∙ (rw append_assoc (take_at bytes (pad ++ rest) _ refl))

pub whole : (bytes : List ℕ) → length (bytes ++ replicate (8 * text_units bytes - length bytes) 0) ≡ 8 * text_units bytes
whole bytes = omega (arith, length-append bytes (replicate (8 * text_units bytes - length bytes) 0), length-replicate {A = ℕ} (8 * text_units bytes - length bytes) 0)

text_back : (bytes ks bs : List ℕ) → length bytes < 2 ^ 32 → (gathered ks bs).bytes ≡ [] → gathered (kinds_of (TextOf bytes) ++ ks) (content_of (TextOf bytes) ++ bs) ≡ record { values = []; bytes = []; objects = TextOf bytes ∷ (gathered ks bs).objects }
unfolding gathered
text_back bytes ks bs h e =
    ap (gather 6 (to_be_bytes w64 (length bytes))) (letters_back (text_units bytes) (bytes ++ replicate (8 * text_units bytes - length bytes) 0) ks bs (whole bytes))
    ∙ ap (λ (x : List ℕ). record { values = []; bytes = []; objects = TextOf x ∷ (gathered ks bs).objects }) (taken bytes (replicate (8 * text_units bytes - length bytes) 0) _ (omega arith) e)

abbrev pub CanSpell : Object → Type 0
CanSpell o = (older : List Object) × MayFollow older o

object_back : (o : Object) (ks bs : List ℕ) → CanSpell o → (gathered ks bs).values ≡ [] → (gathered ks bs).bytes ≡ [] → gathered (kinds_of o ++ ks) (content_of o ++ bs) ≡ record { values = []; bytes = []; objects = o ∷ (gathered ks bs).objects }
object_back (ArrayOf vs) ks bs h e f = array_back vs ks bs (recursion_from_All HasNumber vs h.1.2) e
object_back (TextOf bytes) ks bs h e f = text_back bytes ks bs h.1.0 f

pub all_back : (os : List Object) → ((n : ℕ) (o : Object) → slice_get os n ≡ Some o → CanSpell o) → gathered (all_kinds os) (all_content os) ≡ record { values = []; bytes = []; objects = os }
unfolding gathered
all_back [] f = refl
all_back (o ∷ os) f =
    let again = all_back os (λ n p e. f (suc n) p e) in
    object_back o (all_kinds os) (all_content os) (f 0 o refl) (ap (λ (g : Gathered). g.values) again) (ap (λ (g : Gathered). g.bytes) again)
    ∙ ap (λ (g : Gathered). record { values = []; bytes = []; objects = o ∷ g.objects }) again

pub read_back : (os : List Object) → ((n : ℕ) (o : Object) → slice_get os n ≡ Some o → CanSpell o) → objects_in (all_kinds os) (all_content os) ≡ os
unfolding objects_in
read_back os f = ap (λ (g : Gathered). g.objects) (all_back os f)
