-- Where an object's units stand, and what is read there.
use Rattle.std.proofs.Common.{◌≡◌, ℕ, zero, suc, ◌+◌, ◌-◌, ◌*◌, ◌<◌, ◌≤◌, ◌^◌, ◌∙◌, List, [], ◌∷◌, ◌++◌, length, map, take, drop, get_or, replicate, refl, ap, sym, subst, append_assoc, arith, length-append, Option, Some, None, slice_get, slice_range, IsSome, true, false}
use Rattle.std.specs.List.{flat_map, All}
use Rattle.std.specs.Int.{w64, from_be_bytes}
use Rattle.std.proofs.lemmas.List.{drop-drop, get_or-drop, drop_at, take_at}
use Rattle.std.proofs.lemmas.Nat.{from_be_bytes-to_be_bytes_8}
use Rattle.m5_region.specs.declared.value.Value.{Value}
use Rattle.m5_region.specs.Units.{kind_of, value_of, HasNumber}
use Rattle.m5_region.specs.Region.{Object, ArrayOf, TextOf, Refers, units_of, text_of, bytes_in, fields_of, fields_in, field_of, place_in}
use Rattle.m5_region.specs.Layout.{kinds_of, word_of, content_of, text_units, all_kinds, all_content}
use Rattle.m5_region.specs.code.Stored.{starts_from, Spells, objects_in}
use Rattle.m5_region.proofs.References.{refers_front}
use Rattle.m5_region.proofs.Back.{word_back}
use Rattle.m5_region.proofs.Adding.{units_length, content_length, starts_length}

-- what stands from an object's first unit on
pub drop_to : (f : Object → List ℕ) (os : List Object) (n : ℕ) (o : Object) → slice_get os n ≡ Some o → drop (length (flat_map f (take n os))) (flat_map f os) ≡ f o ++ flat_map f (drop (suc n) os)
drop_to f [] n o e = absurd (let none : None ≡ Some o = e in cc)
drop_to f (p ∷ os) zero o e = let same : p ≡ o = cc in ap (λ (q : Object). f q ++ flat_map f os) same
drop_to f (p ∷ os) (suc n) o e =
    ap (λ (m : ℕ). drop m (f p ++ flat_map f os)) (length-append (f p) (flat_map f (take n os)))
    ∙ sym (drop-drop (length (flat_map f (take n os))) (length (f p)) (f p ++ flat_map f os))
    ∙ ap (drop (length (flat_map f (take n os)))) (drop_at (f p) (flat_map f os) _ refl)
    ∙ drop_to f os n o e

-- the first unit of an object
pub start_at : (at : ℕ) (os : List Object) (n : ℕ) (o : Object) → slice_get os n ≡ Some o → get_or (starts_from at os) n 0 ≡ at + length (all_kinds (take n os))
start_at at [] n o e = absurd (let none : None ≡ Some o = e in cc)
start_at at (p ∷ os) zero o e = omega arith
start_at at (p ∷ os) (suc n) o e =
    start_at (at + units_of p) os n o e ∙ omega (arith, units_length p, length-append (kinds_of p) (all_kinds (take n os)))

pub content_start : (os : List Object) → length (all_content os) ≡ 8 * length (all_kinds os)
content_start [] = refl
content_start (o ∷ os) = omega (arith, content_start os, content_length o, units_length o, length-append (content_of o) (all_content os), length-append (kinds_of o) (all_kinds os))

pub index_within : (os : List Object) (n : ℕ) (o : Object) → slice_get os n ≡ Some o → n < length os
index_within [] n o e = absurd (let none : None ≡ Some o = e in cc)
index_within (p ∷ os) zero o e = omega arith
index_within (p ∷ os) (suc n) o e = omega (arith, index_within os n o e)

pub units_within : (os : List Object) (n : ℕ) (o : Object) → slice_get os n ≡ Some o → length (all_kinds (take n os)) + units_of o ≤ length (all_kinds os)
units_within [] n o e = absurd (let none : None ≡ Some o = e in cc)
units_within (p ∷ os) zero o e = let same : p ≡ o = cc in subst (λ (q : Object). 0 + units_of q ≤ length (all_kinds (p ∷ os))) same (omega (arith, units_length p, length-append (kinds_of p) (all_kinds os)))
units_within (p ∷ os) (suc n) o e = omega (arith, units_within os n o e, length-append (kinds_of p) (all_kinds os), length-append (kinds_of p) (all_kinds (take n os)))

-- an object's units in the lists
pub record Lies (ks bs ss : List ℕ) (os : List Object) (n : ℕ) (o : Object) : Type 0 where
  pub index : n < length ss
  pub units : get_or ss n 0 + units_of o ≤ length ks
  pub bytes : length bs ≡ 8 * length ks
  pub kinds : (r : List ℕ) × (drop (get_or ss n 0) ks ≡ kinds_of o ++ r)
  pub content : (r : List ℕ) × (drop (8 * get_or ss n 0) bs ≡ content_of o ++ r)

pub lies : (ks bs ss : List ℕ) (os : List Object) (n : ℕ) (o : Object) → Spells ks bs ss os → slice_get os n ≡ Some o → Lies ks bs ss os n o
lies ks bs ss os n o s e =
    let start : get_or ss n 0 ≡ length (all_kinds (take n os)) = ap (λ (x : List ℕ). get_or x n 0) s.starts_are ∙ start_at 0 os n o e ∙ omega arith in
    record {
      index = rw s.starts_are (omega (arith, starts_length 0 os, index_within os n o e));
      units = rw (start, s.kinds_are) (units_within os n o e);
      bytes = rw (s.kinds_are, s.content_are) (content_start os);
      kinds = (all_kinds (drop (suc n) os), rw (start, s.kinds_are) (drop_to kinds_of os n o e));
      content = (all_content (drop (suc n) os), rw (start, s.content_are, ← content_start (take n os)) (drop_to content_of os n o e));
    }

some_there : {X : Type 0} (o : Option X) → IsSome o → (x : X) × (o ≡ Some x)
some_there None h = absurd (let no : false ≡ true = h in cc)
some_there (Some x) h = (x, refl)

pub array_there : (o : Option Object) → IsSome (fields_in o) → (vs : List Value) × (o ≡ Some (ArrayOf vs))
array_there None h = absurd (let no : false ≡ true = h in cc)
array_there (Some (TextOf bytes)) h = absurd (let no : false ≡ true = h in cc)
array_there (Some (ArrayOf vs)) h = (vs, refl)

pub text_there : (o : Option Object) → IsSome (bytes_in o) → (bytes : List ℕ) × (o ≡ Some (TextOf bytes))
text_there None h = absurd (let no : false ≡ true = h in cc)
text_there (Some (ArrayOf vs)) h = absurd (let no : false ≡ true = h in cc)
text_there (Some (TextOf bytes)) h = (bytes, refl)

pub field_there : (o : Option Object) (place : ℕ) → IsSome (place_in (fields_in o) place) → (vs : List Value) × (v : Value) × (o ≡ Some (ArrayOf vs)) × (slice_get vs place ≡ Some v)
field_there None place h = absurd (let no : false ≡ true = h in cc)
field_there (Some (TextOf bytes)) place h = absurd (let no : false ≡ true = h in cc)
field_there (Some (ArrayOf vs)) place h = let at = some_there (slice_get vs place) h in (vs, at.0, refl, at.1)

kind_there : (vs : List Value) (place : ℕ) (v : Value) (ks : List ℕ) → slice_get vs place ≡ Some v → get_or (map kind_of vs ++ ks) place 0 ≡ kind_of v
kind_there [] place v ks e = absurd (let none : None ≡ Some v = e in cc)
kind_there (w ∷ vs) zero v ks e = let same : w ≡ v = cc in ap kind_of same
kind_there (w ∷ vs) (suc n) v ks e = kind_there vs n v ks e

eight : (n : ℕ) → 8 * suc n ≡ suc (suc (suc (suc (suc (suc (suc (suc (8 * n))))))))
eight n = omega arith

word_there : (vs : List Value) (place : ℕ) (v : Value) (bs : List ℕ) → slice_get vs place ≡ Some v → take 8 (drop (8 * place) (flat_map word_of vs ++ bs)) ≡ word_of v
word_there [] place v bs e = absurd (let none : None ≡ Some v = e in cc)
word_there (w ∷ vs) zero v bs e = let same : w ≡ v = cc in ap word_of same
word_there (w ∷ vs) (suc n) v bs e = ap (λ (m : ℕ). take 8 (drop m (flat_map word_of (w ∷ vs) ++ bs))) (eight n) ∙ word_there vs n v bs e

pub all_there : (P : Value → Type 0) (vs : List Value) (place : ℕ) (v : Value) → All P vs → slice_get vs place ≡ Some v → (P v) × (place < length vs)
all_there P [] place v h e = absurd (let none : None ≡ Some v = e in cc)
all_there P (w ∷ vs) zero v h e = let same : w ≡ v = cc in (subst P same (h 0 w (omega arith)), omega arith)
all_there P (w ∷ vs) (suc n) v h e = let rest = all_there P vs n v (λ k d l. h (suc k) d (omega arith)) e in (rest.0, omega (arith, rest.1))

pub record FieldFacts (ks bs ss : List ℕ) (at place : ℕ) : Type 0 where
  pub index : at < length ss
  pub unit : get_or ss at 0 + 1 + place < length ks
  pub bytes : 8 * (get_or ss at 0 + 1 + place) + 8 ≤ length bs
  pub is : field_of (objects_in ks bs) at place ≡ Some (value_of (get_or ks (get_or ss at 0 + 1 + place) 0) (from_be_bytes w64 (take 8 (drop (8 * (get_or ss at 0 + 1 + place)) bs))))
  pub older : Refers (take at (objects_in ks bs)) (value_of (get_or ks (get_or ss at 0 + 1 + place) 0) (from_be_bytes w64 (take 8 (drop (8 * (get_or ss at 0 + 1 + place)) bs))))
  pub refers : Refers (objects_in ks bs) (value_of (get_or ks (get_or ss at 0 + 1 + place) 0) (from_be_bytes w64 (take 8 (drop (8 * (get_or ss at 0 + 1 + place)) bs))))

pub field_facts : (ks bs ss : List ℕ) (at place : ℕ) → Spells ks bs ss (objects_in ks bs) → IsSome (field_of (objects_in ks bs) at place) → FieldFacts ks bs ss at place
field_facts ks bs ss at place s h =
    let there = field_there (slice_get (objects_in ks bs) at) place h in
    let vs = there.0 in
    let v = there.1 in
    let l = lies ks bs ss (objects_in ks bs) at (ArrayOf vs) s there.2 in
    let fits = s.older at (ArrayOf vs) there.2 in
    let good = all_there HasNumber vs place v fits.2 there.3 in
    let u = get_or ss at 0 in
    let kind : get_or ks (u + 1 + place) 0 ≡ kind_of v =
    ap (λ (m : ℕ). get_or ks m 0) (let e : u + 1 + place ≡ u + suc place = omega arith in e)
    ∙ sym (get_or-drop u ks (suc place) 0) ∙ ap (λ (x : List ℕ). get_or x (suc place) 0) l.kinds.1 ∙ kind_there vs place v l.kinds.0 there.3 in
    let word : take 8 (drop (8 * (u + 1 + place)) bs) ≡ word_of v =
    ap (λ (m : ℕ). take 8 (drop m bs)) (let e : 8 * (u + 1 + place) ≡ 8 * u + 8 * suc place = omega arith in e)
    ∙ ap (take 8) (sym (drop-drop (8 * suc place) (8 * u) bs) ∙ ap (drop (8 * suc place)) l.content.1)
    ∙ ap (λ (m : ℕ). take 8 (drop m (content_of (ArrayOf vs) ++ l.content.0))) (eight place)
    ∙ word_there vs place v l.content.0 there.3 in
    let value : value_of (get_or ks (u + 1 + place) 0) (from_be_bytes w64 (take 8 (drop (8 * (u + 1 + place)) bs))) ≡ v =
    ap (λ (k : ℕ). value_of k (from_be_bytes w64 (take 8 (drop (8 * (u + 1 + place)) bs)))) kind ∙ ap (λ (x : List ℕ). value_of (kind_of v) (from_be_bytes w64 x)) word ∙ word_back v good.0 in
    record {
      index = l.index;
      unit = omega (arith, l.units, good.1);
      bytes = omega (arith, l.units, l.bytes, good.1);
      is = ap (λ (o : Option Object). place_in (fields_in o) place) there.2 ∙ there.3 ∙ ap Some (sym value);
      older = subst (Refers (take at (objects_in ks bs))) (sym value) (all_there (Refers (take at (objects_in ks bs))) vs place v fits.3 there.3).0;
      refers = subst (Refers (objects_in ks bs)) (sym value) (refers_front at (objects_in ks bs) v (all_there (Refers (take at (objects_in ks bs))) vs place v fits.3 there.3).0);
    }

pub record ArrayFacts (ks bs ss : List ℕ) (at : ℕ) : Type 0 where
  pub index : at < length ss
  pub bytes : 8 * get_or ss at 0 + 8 ≤ length bs
  pub fields : List Value
  pub is : fields_of (objects_in ks bs) at ≡ Some fields
  pub count : from_be_bytes w64 (take 8 (drop (8 * get_or ss at 0) bs)) ≡ length fields
  pub small : length fields < 2 ^ 16

pub array_facts : (ks bs ss : List ℕ) (at : ℕ) → Spells ks bs ss (objects_in ks bs) → IsSome (fields_of (objects_in ks bs) at) → ArrayFacts ks bs ss at
array_facts ks bs ss at s h =
    let there = array_there (slice_get (objects_in ks bs) at) h in
    let vs = there.0 in
    let l = lies ks bs ss (objects_in ks bs) at (ArrayOf vs) s there.1 in
    let fits = s.older at (ArrayOf vs) there.1 in
    record {
      index = l.index;
      bytes = omega (arith, l.units, l.bytes);
      fields = vs;
      is = ap fields_in there.1;
      count = ap (λ (x : List ℕ). from_be_bytes w64 (take 8 x)) l.content.1 ∙ from_be_bytes-to_be_bytes_8 (length vs) (omega (arith, fits.1));
      small = fits.1;
    }

pub record TextFacts (ks bs ss : List ℕ) (at : ℕ) : Type 0 where
  pub index : at < length ss
  pub header : 8 * get_or ss at 0 + 8 ≤ length bs
  pub within : 8 * get_or ss at 0 + 8 + from_be_bytes w64 (take 8 (drop (8 * get_or ss at 0) bs)) ≤ length bs
  pub is : text_of (objects_in ks bs) at ≡ Some (slice_range bs (8 * get_or ss at 0 + 8) (8 * get_or ss at 0 + 8 + from_be_bytes w64 (take 8 (drop (8 * get_or ss at 0) bs))))

range_is : (xs : List ℕ) (a n : ℕ) → slice_range xs a (a + n) ≡ take n (drop a xs)
range_is xs a n = ap (λ (m : ℕ). take m (drop a xs)) (let e : a + n - a ≡ n = omega arith in e)

pub text_facts : (ks bs ss : List ℕ) (at : ℕ) → Spells ks bs ss (objects_in ks bs) → IsSome (text_of (objects_in ks bs) at) → TextFacts ks bs ss at
text_facts ks bs ss at s h =
    let there = text_there (slice_get (objects_in ks bs) at) h in
    let b = there.0 in
    let l = lies ks bs ss (objects_in ks bs) at (TextOf b) s there.1 in
    let fits = s.older at (TextOf b) there.1 in
    let u = get_or ss at 0 in
    let n = from_be_bytes w64 (take 8 (drop (8 * u) bs)) in
    let count : n ≡ length b = ap (λ (x : List ℕ). from_be_bytes w64 (take 8 x)) l.content.1 ∙ from_be_bytes-to_be_bytes_8 (length b) (omega (arith, fits.0)) in
    let pad = replicate (8 * text_units b - length b) 0 in
    let bytes : drop (8 * u + 8) bs ≡ (b ++ pad) ++ l.content.0 = sym (drop-drop 8 (8 * u) bs) ∙ ap (drop 8) l.content.1 in
    let text : take n (drop (8 * u + 8) bs) ≡ b = ap (λ (m : ℕ). take m (drop (8 * u + 8) bs)) count ∙ ap (take (length b)) (bytes ∙ append_assoc b pad l.content.0) ∙ take_at b (pad ++ l.content.0) _ refl in
    record {
      index = l.index;
      header = omega (arith, l.units, l.bytes);
      within = omega (arith, l.units, l.bytes, count);
      is = ap bytes_in there.1 ∙ ap Some (sym (range_is bs (8 * u + 8) n ∙ text));
    }
