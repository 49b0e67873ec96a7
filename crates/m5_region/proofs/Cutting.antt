-- The first objects alone.
use Rattle.std.proofs.Common.{◌≡◌, ℕ, zero, suc, ◌+◌, ◌-◌, ◌*◌, ◌<◌, ◌≤◌, ◌∙◌, List, [], ◌∷◌, length, take, drop, get_or, refl, ap, sym, subst, arith, length-append, Some, None, slice_get}
use Rattle.std.specs.List.{flat_map}
use Rattle.std.proofs.lemmas.List.{take_at, take-take, take-append-drop, length-take-le}
use Rattle.std.proofs.lemmas.List.Concat.{flat_map-append}
use Rattle.m5_region.specs.Region.{Object, units_of, units_in}
use Rattle.m5_region.specs.Layout.{kinds_of, content_of, all_kinds}
use Rattle.m5_region.specs.code.Stored.{starts_from, Spells, objects_in}
use Rattle.m5_region.specs.Region.{MayFollow}
use Rattle.m5_region.proofs.Adding.{units_length, spelled}
use Rattle.m5_region.specs.code.Keeps.{Keeps}
use Rattle.m5_region.proofs.Reading.{start_at, content_start}
use Rattle.m5_region.proofs.Keeping.{keeps}

object_there : (os : List Object) (n : ℕ) → n < length os → (o : Object) × (slice_get os n ≡ Some o)
object_there [] n h = absurd (omega arith)
object_there (o ∷ os) zero h = (o, refl)
object_there (o ∷ os) (suc n) h = object_there os n (omega arith)

front : (f : Object → List ℕ) (os : List Object) (n : ℕ) → take (length (flat_map f (take n os))) (flat_map f os) ≡ flat_map f (take n os)
front f os n =
    ap (λ (x : List Object). take (length (flat_map f (take n os))) (flat_map f x)) (sym (take-append-drop n os))
    ∙ ap (take (length (flat_map f (take n os)))) (flat_map-append f (take n os) (drop n os))
    ∙ take_at (flat_map f (take n os)) (flat_map f (drop n os)) _ refl

starts_front : (at : ℕ) (os : List Object) (n : ℕ) → take n (starts_from at os) ≡ starts_from at (take n os)
starts_front at os zero = refl
starts_front at [] (suc n) = refl
starts_front at (o ∷ os) (suc n) = ap (λ (x : List ℕ). at ∷ x) (starts_front (at + units_of o) os n)

in_front : (os : List Object) (n m : ℕ) (p : Object) → slice_get (take n os) m ≡ Some p → (m < n) × (slice_get os m ≡ Some p)
in_front os zero m p e = absurd (let none : None ≡ Some p = e in cc)
in_front [] (suc n) m p e = absurd (let none : None ≡ Some p = e in cc)
in_front (o ∷ os) (suc n) zero p e = (omega arith, e)
in_front (o ∷ os) (suc n) (suc m) p e = let rest = in_front os n m p e in (omega (arith, rest.0), rest.1)

pub units_all : (os : List Object) → length (all_kinds os) ≡ units_in os
units_all [] = refl
units_all (o ∷ os) = omega (arith, length-append (kinds_of o) (all_kinds os), units_length o, units_all os)

pub record Cut (ks bs ss : List ℕ) (os : List Object) (n : ℕ) : Type 0 where
  pub end_is : get_or ss n 0 ≡ units_in (take n os)
  pub end_within : get_or ss n 0 ≤ length ks
  pub spells : Spells (take (get_or ss n 0) ks) (take (8 * get_or ss n 0) bs) (take n ss) (take n os)

pub cut_spells : (ks bs ss : List ℕ) (os : List Object) (n : ℕ) → Spells ks bs ss os → n < length os → Cut ks bs ss os n
cut_spells ks bs ss os n s h =
    let there = object_there os n h in
    let start : get_or ss n 0 ≡ length (all_kinds (take n os)) = ap (λ (x : List ℕ). get_or x n 0) s.starts_are ∙ start_at 0 os n there.0 there.1 ∙ omega arith in
    let whole : length (all_kinds os) ≡ length (all_kinds (take n os)) + length (all_kinds (drop n os)) =
    ap length (ap all_kinds (sym (take-append-drop n os)) ∙ flat_map-append kinds_of (take n os) (drop n os)) ∙ length-append (all_kinds (take n os)) (all_kinds (drop n os)) in
    record {
      end_is = start ∙ units_all (take n os);
      end_within = rw s.kinds_are (omega (arith, start, whole));
      spells = record {
        kinds_are = rw (start, s.kinds_are) (front kinds_of os n);
        content_are = rw (start, s.content_are, ← content_start (take n os)) (front content_of os n);
        starts_are = rw s.starts_are (starts_front 0 os n);
        older = λ m p e. let at = in_front os n m p e in subst (λ (x : List Object). MayFollow x p) (sym (take-take m n os (omega (arith, at.0)))) (s.older m p at.1);
      };
    }

pub record CutTo (ks bs ks' bs' ss' : List ℕ) (room kc bc sc n : ℕ) : Type 0 where
  pub keeps : Keeps ks' bs' ss' room kc bc sc
  pub objects : objects_in ks' bs' ≡ take n (objects_in ks bs)
  pub left : room - length ks' + units_in (objects_in ks' bs') ≡ room - length ks + units_in (objects_in ks bs)

pub cut_lists : (ks bs ss ks' bs' ss' : List ℕ) (room kc bc sc kc' bc' sc' n end : ℕ) → Keeps ks bs ss room kc bc sc → n < length ss → end ≡ get_or ss n 0 →
    ks' ≡ take end ks → bs' ≡ take (8 * end) bs → ss' ≡ take n ss → kc' ≡ kc → bc' ≡ bc → sc' ≡ sc → CutTo ks bs ks' bs' ss' room kc' bc' sc' n
cut_lists ks bs ss ks' bs' ss' room kc bc sc kc' bc' sc' n end k h e k_is b_is s_is kc_is bc_is sc_is =
    let os = objects_in ks bs in
    let cut = cut_spells ks bs ss os n k.spells (omega (arith, k.counted)) in
    let spells : Spells ks' bs' ss' (take n os) = rw (k_is, b_is, s_is, e) cut.spells in
    let size : length ks' ≡ end = ap length k_is ∙ length-take-le end ks (omega (arith, cut.end_within)) in
    let all : length ks ≡ units_in os = ap length k.spells.kinds_are ∙ units_all os in
    let same : objects_in ks' bs' ≡ take n os = spelled ks' bs' ss' (take n os) spells in
    record {
      keeps = keeps ks' bs' ss' (take n os) room kc' bc' sc' spells (record { within = omega (arith, size, cut.end_within, k.within); small = k.small; kinds_fit = omega (arith, k.kinds_fit); content_fit = omega (arith, k.content_fit); starts_fit = omega (arith, k.starts_fit) });
      objects = same;
      left = rw same (omega (arith, size, all, cut.end_is, cut.end_within, k.within));
    }
