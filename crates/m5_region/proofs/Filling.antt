-- One field of the newest object set.
use Rattle.std.proofs.Common.{◌≡◌, ℕ, zero, suc, ◌+◌, ◌-◌, ◌*◌, ◌<◌, ◌∙◌, List, [], ◌∷◌, ◌++◌, length, map, take, drop, get_or, refl, ap, sym, subst, arith, append_assoc, length-append, Some, None, slice_get, slice_set, IsSome}
use Rattle.std.specs.List.{flat_map}
use Rattle.std.specs.Int.{w64, to_be_bytes}
use Rattle.std.proofs.lemmas.List.{length-map, map-set, set-append_left, set-append_right, length-set}
use Rattle.std.proofs.lemmas.List.Elements.{All-set}
use Rattle.m5_region.specs.declared.value.Value.{Value}
use Rattle.m5_region.specs.Units.{kind_of, HasNumber, with_word}
use Rattle.m5_region.specs.Region.{Object, ArrayOf, TextOf, Refers, units_of, objects_with_field, object_with_field, field_of}
use Rattle.m5_region.specs.Layout.{kinds_of, word_of, content_of, all_kinds, all_content}
use Rattle.m5_region.specs.code.Stored.{starts_from, Spells, objects_in}
use Rattle.m5_region.specs.Region.{MayFollow}
use Rattle.m5_region.specs.code.Keeps.{Keeps}
use Rattle.m5_region.proofs.Adding.{units_length, content_length, spelled}
use Rattle.m5_region.proofs.Reading.{start_at, field_there, all_there}
use Rattle.m5_region.proofs.Keeping.{keeps}

less : (n m : ℕ) → n + m - n ≡ m
less n m = omega arith

kinds_filled : (os : List Object) (at : ℕ) (vs : List Value) (place : ℕ) (v : Value) → slice_get os at ≡ Some (ArrayOf vs) → place < length vs → slice_set (all_kinds os) (length (all_kinds (take at os)) + suc place) (kind_of v) ≡ all_kinds (objects_with_field os at place v)
kinds_filled [] at vs place v e h = absurd (let none : None ≡ Some (ArrayOf vs) = e in cc)
kinds_filled (o ∷ os) zero vs place v e h =
    let same : o ≡ ArrayOf vs = cc in
    let fits : place < length (map kind_of vs) = omega (arith, length-map vs kind_of) in
    let set : slice_set (kinds_of (ArrayOf vs) ++ all_kinds os) (0 + suc place) (kind_of v) ≡ kinds_of (ArrayOf (slice_set vs place v)) ++ all_kinds os =
    ap (λ (n : ℕ). slice_set (kinds_of (ArrayOf vs) ++ all_kinds os) n (kind_of v)) (let z : 0 + suc place ≡ suc place = omega arith in z)
    ∙ ap (λ (x : List ℕ). 5 ∷ x) (set-append_left (map kind_of vs) (all_kinds os) place (kind_of v) fits ∙ ap (λ (x : List ℕ). x ++ all_kinds os) (sym (map-set kind_of vs place v))) in
    subst (λ (p : Object). slice_set (kinds_of p ++ all_kinds os) (0 + suc place) (kind_of v) ≡ kinds_of (object_with_field p place v) ++ all_kinds os) (sym same) set
kinds_filled (o ∷ os) (suc at) vs place v e h =
    let n = length (all_kinds (take at os)) + suc place in
    let far : length (kinds_of o ++ all_kinds (take at os)) + suc place ≡ length (kinds_of o) + n = omega (arith, length-append (kinds_of o) (all_kinds (take at os))) in
    ap (λ (m : ℕ). slice_set (kinds_of o ++ all_kinds os) m (kind_of v)) far
    ∙ set-append_right (kinds_of o) (all_kinds os) (length (kinds_of o)) (length (kinds_of o) + n) (kind_of v) refl (omega arith)
    ∙ ap (λ (x : List ℕ). kinds_of o ++ x) (ap (λ (m : ℕ). slice_set (all_kinds os) m (kind_of v)) (less (length (kinds_of o)) n) ∙ kinds_filled os at vs place v e h)

eight : (n : ℕ) → 8 * suc n ≡ suc (suc (suc (suc (suc (suc (suc (suc (8 * n))))))))
eight n = omega arith

eight_more : (n : ℕ) → 8 * suc n + 8 ≡ suc (suc (suc (suc (suc (suc (suc (suc (8 * n + 8))))))))
eight_more n = omega arith

-- behind eight bytes
word_behind : (b0 b1 b2 b3 b4 b5 b6 b7 : ℕ) (bs : List ℕ) (unit : ℕ) (word : List ℕ) →
    with_word (b0 ∷ b1 ∷ b2 ∷ b3 ∷ b4 ∷ b5 ∷ b6 ∷ b7 ∷ bs) (suc unit) word ≡ b0 ∷ b1 ∷ b2 ∷ b3 ∷ b4 ∷ b5 ∷ b6 ∷ b7 ∷ with_word bs unit word
word_behind b0 b1 b2 b3 b4 b5 b6 b7 bs unit word = rw (eight_more unit, eight unit) refl

take_past : (xs ys : List ℕ) (n : ℕ) → take (length xs + n) (xs ++ ys) ≡ xs ++ take n ys
take_past [] ys n = ap (λ (m : ℕ). take m ys) (let e : 0 + n ≡ n = omega arith in e)
take_past (x ∷ xs) ys n = ap (λ (m : ℕ). take m (x ∷ (xs ++ ys))) (let e : suc (length xs) + n ≡ suc (length xs + n) = omega arith in e) ∙ ap (λ (l : List ℕ). x ∷ l) (take_past xs ys n)

drop_past : (xs ys : List ℕ) (n : ℕ) → drop (length xs + n) (xs ++ ys) ≡ drop n ys
drop_past [] ys n = ap (λ (m : ℕ). drop m ys) (let e : 0 + n ≡ n = omega arith in e)
drop_past (x ∷ xs) ys n = ap (λ (m : ℕ). drop m (x ∷ (xs ++ ys))) (let e : suc (length xs) + n ≡ suc (length xs + n) = omega arith in e) ∙ drop_past xs ys n

-- behind whole units
word_after : (front bs : List ℕ) (n unit : ℕ) (word : List ℕ) → length front ≡ 8 * n → with_word (front ++ bs) (n + unit) word ≡ front ++ with_word bs unit word
word_after front bs n unit word h =
    let a : take (8 * (n + unit)) (front ++ bs) ≡ front ++ take (8 * unit) bs = ap (λ (m : ℕ). take m (front ++ bs)) (let e : 8 * (n + unit) ≡ length front + 8 * unit = omega arith in e) ∙ take_past front bs (8 * unit) in
    let b : drop (8 * (n + unit) + 8) (front ++ bs) ≡ drop (8 * unit + 8) bs = ap (λ (m : ℕ). drop m (front ++ bs)) (let e : 8 * (n + unit) + 8 ≡ length front + (8 * unit + 8) = omega arith in e) ∙ drop_past front bs (8 * unit + 8) in
    rw (a, b) (append_assoc front (take (8 * unit) bs) (word ++ drop (8 * unit + 8) bs))

words_filled : (vs : List Value) (bs : List ℕ) (place : ℕ) (v : Value) → place < length vs → with_word (flat_map word_of vs ++ bs) place (word_of v) ≡ flat_map word_of (slice_set vs place v) ++ bs
words_filled [] bs place v h = absurd (omega arith)
words_filled (w ∷ vs) bs zero v h = refl
words_filled (w ∷ vs) bs (suc place) v h =
    word_behind _ _ _ _ _ _ _ _ (flat_map word_of vs ++ bs) place (word_of v) ∙ ap (λ (x : List ℕ). word_of w ++ x) (words_filled vs bs place v (omega arith))

header_behind : (vs : List Value) (rest : List ℕ) (place : ℕ) (v : Value) → place < length vs → with_word (content_of (ArrayOf vs) ++ rest) (suc place) (word_of v) ≡ (to_be_bytes w64 (length vs) ++ flat_map word_of (slice_set vs place v)) ++ rest
header_behind vs rest place v h =
    word_behind _ _ _ _ _ _ _ _ (flat_map word_of vs ++ rest) place (word_of v) ∙ ap (λ (x : List ℕ). to_be_bytes w64 (length vs) ++ x) (words_filled vs rest place v h)

content_filled : (os : List Object) (at : ℕ) (vs : List Value) (place : ℕ) (v : Value) → slice_get os at ≡ Some (ArrayOf vs) → place < length vs → with_word (all_content os) (length (all_kinds (take at os)) + suc place) (word_of v) ≡ all_content (objects_with_field os at place v)
content_filled [] at vs place v e h = absurd (let none : None ≡ Some (ArrayOf vs) = e in cc)
content_filled (o ∷ os) zero vs place v e h =
    let same : o ≡ ArrayOf vs = cc in
    let set : with_word (content_of (ArrayOf vs) ++ all_content os) (0 + suc place) (word_of v) ≡ content_of (ArrayOf (slice_set vs place v)) ++ all_content os =
    ap (λ (n : ℕ). with_word (content_of (ArrayOf vs) ++ all_content os) n (word_of v)) (let z : 0 + suc place ≡ suc place = omega arith in z)
    ∙ header_behind vs (all_content os) place v h
    ∙ ap (λ (n : ℕ). (to_be_bytes w64 n ++ flat_map word_of (slice_set vs place v)) ++ all_content os) (sym (length-set vs place v)) in
    subst (λ (p : Object). with_word (content_of p ++ all_content os) (0 + suc place) (word_of v) ≡ content_of (object_with_field p place v) ++ all_content os) (sym same) set
content_filled (o ∷ os) (suc at) vs place v e h =
    let n = length (all_kinds (take at os)) + suc place in
    let far : length (kinds_of o ++ all_kinds (take at os)) + suc place ≡ units_of o + n = omega (arith, units_length o, length-append (kinds_of o) (all_kinds (take at os))) in
    ap (λ (m : ℕ). with_word (content_of o ++ all_content os) m (word_of v)) far
    ∙ word_after (content_of o) (all_content os) (units_of o) n (word_of v) (content_length o)
    ∙ ap (λ (x : List ℕ). content_of o ++ x) (content_filled os at vs place v e h)

units_filled : (o : Object) (place : ℕ) (v : Value) → units_of (object_with_field o place v) ≡ units_of o
units_filled (ArrayOf vs) place v = omega (arith, length-set vs place v)
units_filled (TextOf bytes) place v = refl

starts_filled : (from : ℕ) (os : List Object) (at place : ℕ) (v : Value) → starts_from from (objects_with_field os at place v) ≡ starts_from from os
starts_filled from [] at place v = refl
starts_filled from (o ∷ os) zero place v = ap (λ (n : ℕ). from ∷ starts_from (from + n) os) (units_filled o place v)
starts_filled from (o ∷ os) (suc at) place v = ap (λ (x : List ℕ). from ∷ x) (starts_filled (from + units_of o) os at place v)

-- each object with those before it, where the newest one is changed
older_filled : (P : List Object → Object → Type 0) (os : List Object) (at place : ℕ) (v : Value) → at + 1 ≡ length os →
    ((n : ℕ) (o : Object) → slice_get os n ≡ Some o → P (take n os) o) → ((o : Object) → slice_get os at ≡ Some o → P (take at os) (object_with_field o place v)) →
    (n : ℕ) (o : Object) → slice_get (objects_with_field os at place v) n ≡ Some o → P (take n (objects_with_field os at place v)) o
older_filled P [] at place v l f g n o e = absurd (omega arith)
older_filled P (q ∷ []) zero place v l f g zero o e = let same : object_with_field q place v ≡ o = cc in subst (P []) same (g q refl)
older_filled P (q ∷ []) zero place v l f g (suc n) o e = absurd (let none : None ≡ Some o = e in cc)
older_filled P (q ∷ r ∷ os) zero place v l f g n o e = absurd (omega arith)
older_filled P (q ∷ os) (suc at) place v l f g zero o e = f 0 o e
older_filled P (q ∷ os) (suc at) place v l f g (suc n) o e = older_filled (λ (older : List Object). P (q ∷ older)) os at place v (omega arith) (λ m p d. f (suc m) p d) g n o e

fits_filled : (older : List Object) (vs : List Value) (place : ℕ) (v : Value) → MayFollow older (ArrayOf vs) → HasNumber v → Refers older v → MayFollow older (ArrayOf (slice_set vs place v))
fits_filled older vs place v f h r =
    (omega (arith, length-set vs place v, f.0), omega (arith, length-set vs place v, f.1), All-set HasNumber vs place v h f.2, All-set (Refers older) vs place v r f.3)

pub spells_filled : (ks bs ss : List ℕ) (os : List Object) (at : ℕ) (vs : List Value) (place : ℕ) (v : Value) (unit : ℕ) →
    Spells ks bs ss os → at + 1 ≡ length os → slice_get os at ≡ Some (ArrayOf vs) → place < length vs → HasNumber v → Refers (take at os) v →
    unit ≡ length (all_kinds (take at os)) + suc place → Spells (slice_set ks unit (kind_of v)) (with_word bs unit (word_of v)) ss (objects_with_field os at place v)
spells_filled ks bs ss os at vs place v unit s l e h n r u = record {
  kinds_are = rw (s.kinds_are, u) (kinds_filled os at vs place v e h);
  content_are = rw (s.content_are, u) (content_filled os at vs place v e h);
  starts_are = s.starts_are ∙ sym (starts_filled 0 os at place v);
  older = older_filled MayFollow os at place v l s.older (λ o d. let same : ArrayOf vs ≡ o = cc in subst (λ (p : Object). MayFollow (take at os) (object_with_field p place v)) same (fits_filled (take at os) vs place v (s.older at (ArrayOf vs) e) n r));
}

pub record FillTo (ks bs ks' bs' ss : List ℕ) (room kc bc sc at place : ℕ) (v : Value) : Type 0 where
  pub keeps : Keeps ks' bs' ss room kc bc sc
  pub objects : objects_in ks' bs' ≡ objects_with_field (objects_in ks bs) at place v
  pub left : room - length ks' ≡ room - length ks

pub fill_lists : (ks bs ss ks' bs' : List ℕ) (room kc bc sc kc' bc' at place unit : ℕ) (v : Value) → Keeps ks bs ss room kc bc sc → at + 1 ≡ length (objects_in ks bs) →
    IsSome (field_of (objects_in ks bs) at place) → HasNumber v → Refers (take at (objects_in ks bs)) v → unit ≡ get_or ss at 0 + 1 + place →
    ks' ≡ slice_set ks unit (kind_of v) → bs' ≡ with_word bs unit (word_of v) → kc' ≡ kc → bc' ≡ bc → FillTo ks bs ks' bs' ss room kc' bc' sc at place v
fill_lists ks bs ss ks' bs' room kc bc sc kc' bc' at place unit v k l t n r u k_is b_is kc_is bc_is =
    let os = objects_in ks bs in
    let there = field_there (slice_get os at) place t in
    let start : get_or ss at 0 ≡ length (all_kinds (take at os)) = ap (λ (x : List ℕ). get_or x at 0) k.spells.starts_are ∙ start_at 0 os at (ArrayOf there.0) there.2 ∙ omega arith in
    let within = (all_there (λ w. Unit {0}) there.0 place there.1 (λ i d h. tt) there.3).1 in
    let unit_is : unit ≡ length (all_kinds (take at os)) + suc place = omega (arith, u, start) in
    let more = spells_filled ks bs ss os at there.0 place v unit k.spells l there.2 within n r unit_is in
    let spells : Spells ks' bs' ss (objects_with_field os at place v) = rw (k_is, b_is) more in
    let size : length ks' ≡ length ks = ap length k_is ∙ length-set ks unit (kind_of v) in
    record {
      keeps = keeps ks' bs' ss _ room kc' bc' sc spells (record { within = omega (arith, size, k.within); small = k.small; kinds_fit = omega (arith, k.kinds_fit); content_fit = omega (arith, k.content_fit); starts_fit = k.starts_fit });
      objects = spelled ks' bs' ss _ spells;
      left = ap (λ (m : ℕ). room - m) size;
    }
