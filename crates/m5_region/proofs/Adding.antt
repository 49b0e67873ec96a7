-- One object more.
use Rattle.std.proofs.Common.{◌≡◌, ℕ, zero, suc, ◌+◌, ◌*◌, ◌<◌, ◌≤◌, ◌∙◌, List, [], ◌∷◌, ◌++◌, length, take, refl, ap, sym, subst, append-nil, arith, length-append, Some, None, slice_get}
use Rattle.std.specs.List.{flat_map}
use Rattle.std.proofs.lemmas.List.{length-map, length-replicate}
use Rattle.std.proofs.lemmas.List.Concat.{flat_map-append}
use Rattle.m5_region.specs.declared.value.Value.{Value}
use Rattle.m5_region.specs.Units.{kind_of}
use Rattle.m5_region.specs.Region.{Object, ArrayOf, TextOf, units_of}
use Rattle.m5_region.specs.Layout.{kinds_of, word_of, content_of, text_units, all_kinds}
use Rattle.m5_region.specs.code.Stored.{starts_from, Spells, objects_in}
use Rattle.m5_region.specs.Region.{MayFollow}
use Rattle.m5_region.proofs.Back.{read_back, whole, CanSpell}

pub units_length : (o : Object) → length (kinds_of o) ≡ units_of o
units_length (ArrayOf vs) = omega (arith, length-map vs kind_of)
units_length (TextOf bytes) = omega (arith, length-replicate {A = ℕ} (text_units bytes) 7)

words_length : (vs : List Value) → length (flat_map word_of vs) ≡ 8 * length vs
words_length [] = refl
words_length (v ∷ vs) = omega (arith, words_length vs)

pub content_length : (o : Object) → length (content_of o) ≡ 8 * units_of o
content_length (ArrayOf vs) = omega (arith, words_length vs)
content_length (TextOf bytes) = omega (arith, whole bytes)

-- the last piece of what is joined
pub joined_more : (f : Object → List ℕ) (os : List Object) (o : Object) → flat_map f os ++ f o ≡ flat_map f (os ++ o ∷ [])
joined_more f os o = ap (λ (x : List ℕ). flat_map f os ++ x) (sym (append-nil (f o))) ∙ sym (flat_map-append f os (o ∷ []))

pub starts_more : (at : ℕ) (os : List Object) (o : Object) → starts_from at os ++ (at + length (all_kinds os)) ∷ [] ≡ starts_from at (os ++ o ∷ [])
starts_more at [] o = ap (λ (n : ℕ). n ∷ []) (omega arith)
starts_more at (p ∷ os) o =
    let far : at + length (kinds_of p ++ all_kinds os) ≡ at + units_of p + length (all_kinds os) = omega (arith, length-append (kinds_of p) (all_kinds os), units_length p) in
    ap (λ (x : List ℕ). at ∷ x) (ap (λ (n : ℕ). starts_from (at + units_of p) os ++ n ∷ []) far ∙ starts_more (at + units_of p) os o)

starts_push : (os : List Object) (o : Object) → starts_from 0 os ++ length (all_kinds os) ∷ [] ≡ starts_from 0 (os ++ o ∷ [])
starts_push os o = ap (λ (n : ℕ). starts_from 0 os ++ n ∷ []) (omega arith) ∙ starts_more 0 os o

same_some : {X : Type 0} → (x y : X) → Some x ≡ Some y → x ≡ y
same_some x y e = cc

-- what holds of each item with those before it, one item on
pub older_more : (P : List Object → Object → Type 0) (os : List Object) (o : Object) → ((n : ℕ) (p : Object) → slice_get os n ≡ Some p → P (take n os) p) → P os o → (n : ℕ) (p : Object) → slice_get (os ++ o ∷ []) n ≡ Some p → P (take n (os ++ o ∷ [])) p
older_more P [] o f h zero p e = subst (P []) (same_some o p e) h
older_more P [] o f h (suc n) p e = absurd (let none : None ≡ Some p = e in cc)
older_more P (q ∷ os) o f h zero p e = f 0 p e
older_more P (q ∷ os) o f h (suc n) p e = older_more (λ (older : List Object). P (q ∷ older)) os o (λ m r g. f (suc m) r g) h n p e

pub spells_more : (ks bs ss : List ℕ) (os : List Object) (o : Object) → Spells ks bs ss os → MayFollow os o → Spells (ks ++ kinds_of o) (bs ++ content_of o) (ss ++ length ks ∷ []) (os ++ o ∷ [])
spells_more ks bs ss os o s h = record {
  kinds_are = ap (λ (x : List ℕ). x ++ kinds_of o) s.kinds_are ∙ joined_more kinds_of os o;
  content_are = ap (λ (x : List ℕ). x ++ content_of o) s.content_are ∙ joined_more content_of os o;
  starts_are = ap (λ (x : List ℕ). x ++ length ks ∷ []) s.starts_are ∙ ap (λ (x : List ℕ). starts_from 0 os ++ length x ∷ []) s.kinds_are ∙ starts_push os o;
  older = older_more MayFollow os o s.older h;
}

can_spell : (os : List Object) → ((n : ℕ) (o : Object) → slice_get os n ≡ Some o → MayFollow (take n os) o) → (n : ℕ) (o : Object) → slice_get os n ≡ Some o → CanSpell o
can_spell os f n o e = (take n os, f n o e)

-- what is spelled is what is read
pub spelled : (ks bs ss : List ℕ) (os : List Object) → Spells ks bs ss os → objects_in ks bs ≡ os
spelled ks bs ss os s =
    ap (λ (x : List ℕ). objects_in x bs) s.kinds_are ∙ ap (λ (x : List ℕ). objects_in (all_kinds os) x) s.content_are ∙ read_back os (can_spell os s.older)

pub stands : (ks bs ss : List ℕ) (os : List Object) → Spells ks bs ss os → Spells ks bs ss (objects_in ks bs)
stands ks bs ss os s = subst (Spells ks bs ss) (sym (spelled ks bs ss os s)) s

pub record Added (ks bs ss : List ℕ) (os : List Object) : Type 0 where
  pub spells : Spells ks bs ss (objects_in ks bs)
  pub objects : objects_in ks bs ≡ os

-- the lists after an object's units were added
pub added : (ks bs ss ks' bs' ss' : List ℕ) (o : Object) → Spells ks bs ss (objects_in ks bs) → MayFollow (objects_in ks bs) o → ks' ≡ ks ++ kinds_of o → bs' ≡ bs ++ content_of o → ss' ≡ ss ++ length ks ∷ [] → Added ks' bs' ss' (objects_in ks bs ++ o ∷ [])
added ks bs ss ks' bs' ss' o s h k b t =
    let more = spells_more ks bs ss _ o s h in
    let again : Spells ks' bs' ss' (objects_in ks bs ++ o ∷ []) = rw (k, b, t) more in
    record { spells = stands ks' bs' ss' _ again; objects = spelled ks' bs' ss' _ again }

units_positive : (o : Object) → 0 < units_of o
units_positive (ArrayOf vs) = omega arith
units_positive (TextOf bytes) = omega arith

pub count_within : (at : ℕ) (os : List Object) → length (starts_from at os) ≤ length (all_kinds os)
count_within at [] = omega arith
count_within at (o ∷ os) = omega (arith, count_within (at + units_of o) os, length-append (kinds_of o) (all_kinds os), units_length o, units_positive o)

pub starts_length : (at : ℕ) (os : List Object) → length (starts_from at os) ≡ length os
starts_length at [] = refl
starts_length at (o ∷ os) = ap suc (starts_length (at + units_of o) os)
