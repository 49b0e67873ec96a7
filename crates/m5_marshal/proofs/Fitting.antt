-- What makes an object one of the type at which it is reached.
use Rattle.std.proofs.Common.{◌≡◌, ℕ, zero, suc, ◌+◌, ◌-◌, ◌<◌, ◌≤◌, true, false, Bool, List, [], ◌∷◌, ◌++◌, length, take, drop, Option, Some, None, slice_get, refl, sym, ap, subst, ◌∙◌, arith, inl, inr, pos, IsSome, IsSomeAnd, IfSome, length-append, length-drop}
use Rattle.std.specs.Prelude.{unwrap_or, IsTrue}
use Rattle.std.specs.List.{list_all, All}
use Rattle.std.proofs.lemmas.Bool.{cases_lt}
use Rattle.std.proofs.lemmas.List.{drop_at}
use Rattle.m5_region.specs.declared.value.Value.{Value}
use Rattle.m5_region.specs.declared.value.Value.TheVariants as values
use Rattle.m5_region.specs.Region.{Object, ArrayOf, TextOf, IsArray, Refers, ReferToOlder, fields_in, fields_of, field_of, place_in}
use Rattle.m5_terms.specs.Text.{text_byte}
use Rattle.m5_dictionary.specs.declared.line.TypeLine.{TypeLine}
use Rattle.m5_dictionary.specs.declared.line.TypeLine.TheVariants as lines
use Rattle.m5_dictionary.specs.Dictionaries.{Dictionaries}
use Rattle.m5_message.specs.Reading.{Opening, Whole, Parts, side, cell_of_list, is_object_line}
use Rattle.m5_message.specs.Spelling.{opening_in, fields_behind, IsOf, AreOf, Closes}
use Rattle.m5_message.specs.Packing.{Reached, target, value_reaches, values_reach, opened_reaches, object_reaches, reaches, IsFit}
use Rattle.m5_message.proofs.Packs.{entered_is}
use Rattle.m5_region.proofs.References.{refers_front}
use Rattle.m5_marshal.specs.code.Adding.{IsKind}
use Rattle.m5_marshal.specs.code.Keys.{HasFields, values_behind}
use Rattle.m5_marshal.specs.code.Fits.{Within, IsKinded, AreKinded}
use Rattle.m5_marshal.proofs.Marked.{has_cases, head_cases}

some_is : {A : Type 0} (x y : A) → Some x ≡ Some y → x ≡ y
some_is x y e = cc

-- ---- an array has a first field

pub first_field : (os : List Object) (at : ℕ) → IsSomeAnd (slice_get os at) IsArray → ReferToOlder os → IsSome (field_of os at 0)
first_field os at h older = by_object (slice_get os at) refl h
  where
    by_object : (m : Option Object) → slice_get os at ≡ m → IsSomeAnd m IsArray → IsSome (field_of os at 0)
    by_object None is k = absurd k
    by_object (Some (TextOf bytes)) is k = absurd k
    by_object (Some (ArrayOf [])) is k = absurd (let some = (older at (ArrayOf []) is).0 in omega (arith, some))
    by_object (Some (ArrayOf (v ∷ vs))) is k = subst (λ (m : Option Object). IsSome (place_in (fields_in m) 0)) (sym is) refl

kind_array : (m : Option Object) (l : Option TypeLine) (line : TypeLine) → l ≡ Some line → ((o : Object) → IsKind (Some line) o → IsArray o) → IsSomeAnd m (IsKind l) → IsSomeAnd m IsArray
kind_array None l line e f h = absurd h
kind_array (Some o) l line e f h = f o (subst (λ (x : Option TypeLine). IsKind x o) e h)

pub sum_array : (d : Dictionaries) (os : List Object) (q : Reached) (i j : ℕ) → slice_get d.types q.id ≡ Some (lines.Sum i j) → IsKinded d os q → IsSomeAnd (slice_get os q.at) IsArray
sum_array d os q i j e h = kind_array (slice_get os q.at) (slice_get d.types q.id) (lines.Sum i j) e (λ o k. k) h

pub list_array : (d : Dictionaries) (os : List Object) (q : Reached) (i : ℕ) → slice_get d.types q.id ≡ Some (lines.List i) → IsKinded d os q → IsSomeAnd (slice_get os q.at) IsArray
list_array d os q i e h = kind_array (slice_get os q.at) (slice_get d.types q.id) (lines.List i) e (λ o k. k) h

pub fun_array : (d : Dictionaries) (os : List Object) (q : Reached) (i : ℕ) → slice_get d.types q.id ≡ Some (lines.Fun i) → IsKinded d os q → IsSomeAnd (slice_get os q.at) IsArray
fun_array d os q i e h = kind_array (slice_get os q.at) (slice_get d.types q.id) (lines.Fun i) e (λ o k. k) h

-- ---- fields one after the other

-- the first fields are of their types
abbrev pub FitSoFar : Dictionaries → ℕ → List ℕ → List Value → ℕ → Type 0
FitSoFar d older ids vs n = (k id : ℕ) (v : Value) → k < n → slice_get ids k ≡ Some id → slice_get vs k ≡ Some v → IsOf (Within d older) id (slice_get d.types id) v

pub fit_next : (d : Dictionaries) (older : ℕ) (ids : List ℕ) (vs : List Value) (n id : ℕ) (v : Value) → FitSoFar d older ids vs n → slice_get ids n ≡ Some id → slice_get vs n ≡ Some v → IsOf (Within d older) id (slice_get d.types id) v → FitSoFar d older ids vs (n + 1)
fit_next d older ids vs n id v h there value fit k i w lt e f = elim (cases_lt k n) [
  | inl below ↦ h k i w below e f
  | inr le ↦ (
      let here : k ≡ n = omega arith in
      let same : id ≡ i = some_is id i (sym there ∙ ap (slice_get ids) (sym here) ∙ e) in
      let one : v ≡ w = some_is v w (sym value ∙ ap (slice_get vs) (sym here) ∙ f) in
      subst (λ (x : Value). IsOf (Within d older) i (slice_get d.types i) x) one
      (subst (λ (x : ℕ). IsOf (Within d older) x (slice_get d.types x) v) same fit)
      )
]

pub all_fits : (d : Dictionaries) (older : ℕ) (ids : List ℕ) (vs : List Value) → length ids ≡ length vs → FitSoFar d older ids vs (length ids) → AreOf d (Within d older) ids vs
unfolding AreOf
all_fits d older [] [] e h = tt
all_fits d older [] (v ∷ vs) e h = absurd (omega (arith, e))
all_fits d older (id ∷ ids) [] e h = absurd (omega (arith, e))
all_fits d older (id ∷ ids) (v ∷ vs) e h = (h 0 id v (omega arith) refl refl, all_fits d older ids vs (omega (arith, e)) (λ k i w lt f g. h (suc k) i w (omega (arith, lt)) f g))

pub one_fits : (d : Dictionaries) (R : ℕ → ℕ → Type 0) (ids : List ℕ) (vs : List Value) (k id : ℕ) (v : Value) → AreOf d R ids vs → slice_get ids k ≡ Some id → slice_get vs k ≡ Some v → IsOf R id (slice_get d.types id) v
unfolding AreOf
one_fits d R [] vs k id v h e f = absurd (let none : None ≡ Some id = e in cc)
one_fits d R (i ∷ ids) [] k id v h e f = absurd h
one_fits d R (i ∷ ids) (w ∷ vs) zero id v h e f =
    subst (λ (x : Value). IsOf R id (slice_get d.types id) x) (some_is w v f)
    (subst (λ (x : ℕ). IsOf R x (slice_get d.types x) w) (some_is i id e) h.0)
one_fits d R (i ∷ ids) (w ∷ vs) (suc k) id v h e f = one_fits d R ids vs k id v h.1 e f

pub behind_count : (os : List Object) (at first n : ℕ) → HasFields os at first → IfSome (fields_of os at) (λ vs. n ≡ length vs) → length (values_behind os at first) ≡ n - first
behind_count os at first n h is = by_fields (fields_of os at) h is
  where
    by_fields : (m : Option (List Value)) → IsSomeAnd m (λ vs. first ≤ length vs) → IfSome m (λ vs. n ≡ length vs) → length (drop first (unwrap_or m [])) ≡ n - first
    by_fields None k e = absurd k
    by_fields (Some vs) k e = length-drop first vs ∙ ap (λ (x : ℕ). x - first) (sym e)

pub first_within : (os : List Object) (at first n : ℕ) → HasFields os at first → IfSome (fields_of os at) (λ vs. n ≡ length vs) → first ≤ n
first_within os at first n h is = by_fields (fields_of os at) h is
  where
    by_fields : (m : Option (List Value)) → IsSomeAnd m (λ vs. first ≤ length vs) → IfSome m (λ vs. n ≡ length vs) → first ≤ n
    by_fields None k e = absurd k
    by_fields (Some vs) k e = omega (arith, k, e)

pub fields_there : (os : List Object) (at first : ℕ) → HasFields os at first → IsSome (fields_of os at)
fields_there os at first h = by_fields (fields_of os at) h
  where
    by_fields : (m : Option (List Value)) → IsSomeAnd m (λ vs. first ≤ length vs) → IsSome m
    by_fields None k = absurd k
    by_fields (Some vs) k = refl

pub place_there : (os : List Object) (at first n place : ℕ) → HasFields os at first → IfSome (fields_of os at) (λ vs. n ≡ length vs) → place < n → IsSome (field_of os at place)
place_there os at first n place h is lt = by_fields (fields_of os at) h is
  where
    get_below : (vs : List Value) (k : ℕ) → k < length vs → IsSome (slice_get vs k)
    get_below [] k l = absurd (omega arith)
    get_below (v ∷ vs) zero l = refl
    get_below (v ∷ vs) (suc k) l = get_below vs k (omega arith)

    by_fields : (m : Option (List Value)) → IsSomeAnd m (λ vs. first ≤ length vs) → IfSome m (λ vs. n ≡ length vs) → IsSome (place_in m place)
    by_fields None k e = absurd k
    by_fields (Some vs) k e = get_below vs place (omega (arith, e, lt))

-- ---- an object by its first field

-- the object begins as it is opened
abbrev pub Shape : Opening → Object → Type 0
Shape (Whole bytes) o = o ≡ TextOf bytes
Shape (Parts first others) o = (vs : List Value) × (o ≡ ArrayOf (first ++ vs))

side_shape : (i j : ℕ) (b : Bool) (vs : List Value) → Shape (side i j b) (ArrayOf (values.Bool b ∷ vs))
side_shape i j false vs = (vs, refl)
side_shape i j true vs = (vs, refl)

list_shape : (i id : ℕ) (b : Bool) (vs : List Value) → Shape (cell_of_list i id b) (ArrayOf (values.Bool b ∷ vs))
list_shape i id false vs = (vs, refl)
list_shape i id true vs = (vs, refl)

pub shape : (d : Dictionaries) (id : ℕ) (line : Option TypeLine) (o : Object) (p : Opening) → opening_in d id line o ≡ Some p → Shape p o
shape d id (Some lines.Text) (TextOf bytes) p e = subst (λ (x : Opening). Shape x (TextOf bytes)) (some_is _ _ e) refl
shape d id (Some (lines.Pair i j)) (ArrayOf vs) p e = subst (λ (x : Opening). Shape x (ArrayOf vs)) (some_is _ _ e) (vs, refl)
shape d id (Some (lines.Sum i j)) (ArrayOf (values.Bool b ∷ vs)) p e = subst (λ (x : Opening). Shape x (ArrayOf (values.Bool b ∷ vs))) (some_is _ _ e) (side_shape i j b vs)
shape d id (Some (lines.List i)) (ArrayOf (values.Bool b ∷ vs)) p e = subst (λ (x : Opening). Shape x (ArrayOf (values.Bool b ∷ vs))) (some_is _ _ e) (list_shape i id b vs)
shape d id (Some (lines.Fun i)) (ArrayOf (values.Int (pos l) ∷ vs)) p e =
    subst (λ (x : Opening). Shape x (ArrayOf (values.Int (pos l) ∷ vs))) (sym (entered_is i l (slice_get d.labels l) p e).1) (vs, refl)
shape d id line o p e = absurd (let none : None ≡ Some p = e in cc)

pub no_fit : (d : Dictionaries) (os : List Object) (q : Reached) → ((o : Object) (p : Opening) → slice_get os q.at ≡ Some o → opening_in d q.id (slice_get d.types q.id) o ≡ Some p → ⊥) → IsFit d os q (slice_get os q.at) → ⊥
no_fit d os q none fit = by_object (slice_get os q.at) refl fit
  where
    by_object : (m : Option Object) → slice_get os q.at ≡ m → IsFit d os q m → ⊥
    by_object None is k = absurd k
    by_object (Some o) is k = none o k.0 is k.1

pub closes_fit : (d : Dictionaries) (os : List Object) (q : Reached) (o : Object) (p : Opening) → slice_get os q.at ≡ Some o → opening_in d q.id (slice_get d.types q.id) o ≡ Some p → Closes d (Within d q.at) p o → IsFit d os q (slice_get os q.at)
closes_fit d os q o p is e c = subst (λ (m : Option Object). IsFit d os q m) (sym is) (p, e, c)

pub text_closes : (d : Dictionaries) (os : List Object) (at : ℕ) (o : Object) (bytes : List ℕ) → slice_get os at ≡ Some o → ReferToOlder os → Shape (Whole bytes) o → IsTrue (list_all text_byte bytes) → Closes d (Within d at) (Whole bytes) o
text_closes d os at o bytes is older s letters = (s, (older at (TextOf bytes) (is ∙ ap Some s)).0, letters)

pub behind_shape : (os : List Object) (at : ℕ) (o : Object) (first : List Value) (vs : List Value) → slice_get os at ≡ Some o → o ≡ ArrayOf (first ++ vs) → values_behind os at (length first) ≡ vs
behind_shape os at o first vs is e = rw (is, e) (drop_at first vs (length first) refl)

pub parts_close : (d : Dictionaries) (os : List Object) (at : ℕ) (o : Object) (first : List Value) (others : List ℕ) → slice_get os at ≡ Some o → Shape (Parts first others) o → AreOf d (Within d at) others (values_behind os at (length first)) → Closes d (Within d at) (Parts first others) o
parts_close d os at o first others is s h = (s.0, s.1, subst (AreOf d (Within d at) others) (behind_shape os at o first s.0 is s.1) h)

pub closed_parts : (d : Dictionaries) (os : List Object) (at : ℕ) (o : Object) (first : List Value) (others : List ℕ) → slice_get os at ≡ Some o → Closes d (Within d at) (Parts first others) o → AreOf d (Within d at) others (values_behind os at (length first))
closed_parts d os at o first others is c = subst (AreOf d (Within d at) others) (sym (behind_shape os at o first c.0 is c.1)) c.2

pub shape_fields : (os : List Object) (at : ℕ) (o : Object) (first : List Value) (others : List ℕ) → slice_get os at ≡ Some o → Shape (Parts first others) o → HasFields os at (length first)
shape_fields os at o first others is s = rw (is, s.1) (omega (arith, length-append first s.0))

-- ---- what a fit object reaches is of its kind

one_kinded : (d : Dictionaries) (os : List Object) (id : ℕ) (line : TypeLine) (v : Value) → slice_get d.types id ≡ Some line → IsSomeAnd (slice_get os (target v)) (IsKind (Some line)) → AreKinded d os (record { at = target v; id = id } ∷ [])
one_kinded d os id line v is h q e = elim (head_cases (record { at = target v; id = id }) [] q e) [
  | inl same ↦ subst (IsKinded d os) same (subst (λ (l : Option TypeLine). IsSomeAnd (slice_get os (target v)) (IsKind l)) (sym is) h)
  | inr z ↦ absurd (let wrong : false ≡ true = z in cc)
]

none_kinded : (d : Dictionaries) (os : List Object) → AreKinded d os []
none_kinded d os q e = absurd (let wrong : false ≡ true = e in cc)

referred : (os : List Object) (v w : Value) (K : Object → Type 0) → v ≡ w → (Refers os w → IsSomeAnd (slice_get os (target w)) K) → Refers os v → IsSomeAnd (slice_get os (target v)) K
referred os v w K e f h = subst (λ (x : Value). IsSomeAnd (slice_get os (target x)) K) (sym e) (f (subst (Refers os) e h))

pub value_kinded : (d : Dictionaries) (os : List Object) (older id : ℕ) (line : Option TypeLine) (v : Value) → slice_get d.types id ≡ line → IsOf (Within d older) id line v → Refers os v → AreKinded d os (value_reaches (is_object_line line) id v)
value_kinded d os older id None v is h r = absurd h
value_kinded d os older id (Some lines.Unit) v is h r = none_kinded d os
value_kinded d os older id (Some lines.Bool) v is h r = none_kinded d os
value_kinded d os older id (Some lines.Int) v is h r = none_kinded d os
value_kinded d os older id (Some lines.Cell) v is h r = none_kinded d os
value_kinded d os older id (Some (lines.Addr w)) v is h r = none_kinded d os
value_kinded d os older id (Some lines.Text) v is h r = one_kinded d os id lines.Text v is (referred os v _ (IsKind (Some lines.Text)) h.2 (λ x. x) r)
value_kinded d os older id (Some (lines.Pair i j)) v is h r = one_kinded d os id (lines.Pair i j) v is (referred os v _ (IsKind (Some (lines.Pair i j))) h.2 (λ x. x) r)
value_kinded d os older id (Some (lines.Sum i j)) v is h r = one_kinded d os id (lines.Sum i j) v is (referred os v _ (IsKind (Some (lines.Sum i j))) h.2 (λ x. x) r)
value_kinded d os older id (Some (lines.List i)) v is h r = one_kinded d os id (lines.List i) v is (referred os v _ (IsKind (Some (lines.List i))) h.2 (λ x. x) r)
value_kinded d os older id (Some (lines.Fun i)) v is h r = one_kinded d os id (lines.Fun i) v is (referred os v _ (IsKind (Some (lines.Fun i))) h.2 (λ x. x) r)

append_kinded : (d : Dictionaries) (os : List Object) (a b : List Reached) → AreKinded d os a → AreKinded d os b → AreKinded d os (a ++ b)
append_kinded d os a b h k q e = elim (has_cases a b q e) [ inl s ↦ h q s | inr s ↦ k q s ]

values_kinded : (d : Dictionaries) (os : List Object) (older : ℕ) (ids : List ℕ) (vs : List Value) → AreOf d (Within d older) ids vs → ((k : ℕ) (v : Value) → slice_get vs k ≡ Some v → Refers os v) → AreKinded d os (values_reach d ids vs)
unfolding values_reach AreOf
values_kinded d os older [] [] h r = none_kinded d os
values_kinded d os older [] (v ∷ vs) h r = absurd h
values_kinded d os older (id ∷ ids) [] h r = absurd h
values_kinded d os older (id ∷ ids) (v ∷ vs) h r =
    append_kinded d os (value_reaches (is_object_line (slice_get d.types id)) id v) (values_reach d ids vs)
    (value_kinded d os older id (slice_get d.types id) v refl h.0 (r 0 v refl))
    (values_kinded d os older ids vs h.1 (λ k w e. r (suc k) w e))

all_get : (P : Value → Type 0) (vs : List Value) (k : ℕ) (v : Value) → All P vs → slice_get vs k ≡ Some v → P v
all_get P [] k v h e = absurd (let none : None ≡ Some v = e in cc)
all_get P (x ∷ vs) zero v h e = subst P (some_is x v e) (h 0 x (omega arith))
all_get P (x ∷ vs) (suc k) v h e = all_get P vs k v (λ (n : ℕ) (y : Value) lt. h (suc n) y (omega (arith, lt))) e

get_behind : (first vs : List Value) (k : ℕ) (v : Value) → slice_get vs k ≡ Some v → slice_get (first ++ vs) (length first + k) ≡ Some v
get_behind [] vs k v e = ap (slice_get vs) (let same : 0 + k ≡ k = omega arith in same) ∙ e
get_behind (x ∷ first) vs k v e = ap (slice_get (x ∷ first ++ vs)) (let same : suc (length first) + k ≡ suc (length first + k) = omega arith in same) ∙ get_behind first vs k v e

pub reaches_kinded : (d : Dictionaries) (os : List Object) (q : Reached) → ReferToOlder os → IsFit d os q (slice_get os q.at) → AreKinded d os (reaches d os q)
reaches_kinded d os q older fit = by_object (slice_get os q.at) refl fit
  where
    by_opening : (o : Object) → slice_get os q.at ≡ Some o → (p : Opening) → Closes d (Within d q.at) p o → AreKinded d os (opened_reaches d (Some p) o)
    by_opening o is (Whole bytes) c = none_kinded d os
    by_opening o is (Parts first others) c =
        let there : slice_get os q.at ≡ Some (ArrayOf (first ++ c.0)) = is ∙ ap Some c.1 in
        let follows = older q.at (ArrayOf (first ++ c.0)) there in
        subst (λ (x : Object). AreKinded d os (values_reach d others (fields_behind first x))) (sym c.1)
        (
        subst (λ (vs : List Value). AreKinded d os (values_reach d others vs)) (sym (drop_at first c.0 (length first) refl))
        (values_kinded d os q.at others c.0 c.2 (λ k v e. refers_front q.at os v (all_get (Refers (take q.at os)) (first ++ c.0) (length first + k) v follows.3 (get_behind first c.0 k v e))))
        )

    by_object : (m : Option Object) → slice_get os q.at ≡ m → IsFit d os q m → AreKinded d os (object_reaches d q.id (slice_get os q.at))
    by_object None is k = absurd k
    by_object (Some o) is k =
        subst (λ (m : Option Object). AreKinded d os (object_reaches d q.id m)) (sym is)
        (subst (λ (x : Option Opening). AreKinded d os (opened_reaches d x o)) (sym k.1) (by_opening o is k.0 k.2))
