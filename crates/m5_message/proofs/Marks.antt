-- What is marked holds what it reaches, and each before what reaches it.
use Rattle.std.proofs.Common.{◌≡◌, ℕ, zero, suc, ◌<◌, Bool, true, false, cond, eqb, ◌&&◌, List, [], ◌∷◌, ◌++◌, length, Option, Some, None, slice_get, refl, sym, ap, subst, ◌∙◌, append_assoc, append-nil, arith, inl, inr}
use Rattle.std.specs.List.{flat_map, AllByRecursion}
use Rattle.std.proofs.lemmas.Bool.{cases_lt, eq-eqb, eqb-true}
use Rattle.std.proofs.lemmas.List.{drop_at}
use Rattle.m5_region.specs.declared.value.Value.{Value}
use Rattle.m5_region.specs.Region.{Object}
use Rattle.m5_dictionary.specs.declared.line.TypeLine.{TypeLine}
use Rattle.m5_dictionary.specs.declared.line.TypeLine.TheVariants as lines
use Rattle.m5_dictionary.specs.Dictionaries.{Dictionaries}
use Rattle.m5_message.specs.Reading.{Opening, Whole, Parts, reference, is_object_line}
use Rattle.m5_message.specs.Spelling.{fields_behind, IsOf, AreOf, Closes}
use Rattle.m5_message.specs.Packing.{Reached, same, has, place_in, target, value_reaches, values_reach, opened_reaches, object_reaches, reaches, wanted_ids, marked, IsFit, AreFit}

-- ---- pairs in a list

both : (a b : Bool) → a && b ≡ true → (a ≡ true) × (b ≡ true)
both true b e = (refl, e)
both false b e = absurd cc

pub same_is : (p q : Reached) → same p q ≡ true → p ≡ q
same_is p q e =
    let h = both (eqb p.at q.at) (eqb p.id q.id) e in
    let at = eqb-true p.at q.at h.0 in
    let id = eqb-true p.id q.id h.1 in
    ap (λ (n : ℕ). record { at = n; id = p.id }) at ∙ ap (λ (n : ℕ). record { at = q.at; id = n }) id

pub same_self : (p : Reached) → same p p ≡ true
same_self p = rw (eq-eqb p.at p.at refl, eq-eqb p.id p.id refl) refl

pub has_left : (a b : List Reached) (q : Reached) → has a q ≡ true → has (a ++ b) q ≡ true
has_left [] b q e = absurd cc
has_left (p ∷ a) b q e = by_test (same p q) (λ h. has_left a b q h) e
  where
    by_test : (t : Bool) → (has a q ≡ true → has (a ++ b) q ≡ true) → cond t true (has a q) ≡ true → cond t true (has (a ++ b) q) ≡ true
    by_test true go h = refl
    by_test false go h = go h

either : (t : Bool) → cond t true true ≡ true
either true = refl
either false = refl

pub has_right : (a b : List Reached) (q : Reached) → has b q ≡ true → has (a ++ b) q ≡ true
has_right [] b q e = e
has_right (p ∷ a) b q e = rw (has_right a b q e) (either (same p q))

pub has_head : (p : Reached) (ps : List Reached) → has (p ∷ ps) p ≡ true
has_head p ps = rw (same_self p) refl

pub has_tail : (p : Reached) (ps : List Reached) (q : Reached) → has ps q ≡ true → has (p ∷ ps) q ≡ true
has_tail p ps q e = has_right (p ∷ []) ps q e

pub place_left : (a b : List Reached) (q : Reached) → has a q ≡ true → place_in (a ++ b) q ≡ place_in a q
place_left [] b q e = absurd cc
place_left (p ∷ a) b q e = by_test (same p q) (λ h. place_left a b q h) e
  where
    by_test : (t : Bool) → (has a q ≡ true → place_in (a ++ b) q ≡ place_in a q) → cond t true (has a q) ≡ true → cond t 0 (suc (place_in (a ++ b) q)) ≡ cond t 0 (suc (place_in a q))
    by_test true go h = refl
    by_test false go h = ap suc (go h)

pub place_within : (a : List Reached) (q : Reached) → has a q ≡ true → place_in a q < length a
place_within [] q e = absurd cc
place_within (p ∷ a) q e = by_test (same p q) (λ h. place_within a q h) e
  where
    by_test : (t : Bool) → (has a q ≡ true → place_in a q < length a) → cond t true (has a q) ≡ true → cond t 0 (suc (place_in a q)) < suc (length a)
    by_test true go h = omega arith
    by_test false go h = omega (arith, go h)

pub place_there : (a : List Reached) (q : Reached) → has a q ≡ true → slice_get a (place_in a q) ≡ Some q
place_there [] q e = absurd cc
place_there (p ∷ a) q e = by_test (same p q) (λ h. place_there a q h) refl e
  where
    by_test : (t : Bool) → (has a q ≡ true → slice_get a (place_in a q) ≡ Some q) → same p q ≡ t → cond t true (has a q) ≡ true → slice_get (p ∷ a) (cond t 0 (suc (place_in a q))) ≡ Some q
    by_test true go s h = ap Some (same_is p q s)
    by_test false go s h = go h

-- ---- what is wanted is marked

above_or_at : (w : List Reached) (at id : ℕ) (q : Reached) → q.at ≡ at → q.id ≡ id → has w q ≡ true → has (cond (has w (record { at = at; id = id })) (record { at = at; id = id } ∷ []) []) q ≡ true
above_or_at w at id q e f h =
    let is : q ≡ record { at = at; id = id } = ap (λ (n : ℕ). record { at = n; id = q.id }) e ∙ ap (λ (n : ℕ). record { at = at; id = n }) f in
    subst (λ (r : Reached). has (cond (has w r) (r ∷ []) []) q ≡ true) is (rw h (has_head q []))

wanted_has : (w : List Reached) (at k : ℕ) (q : Reached) → q.at ≡ at → q.id < k → has w q ≡ true → has (wanted_ids w at k) q ≡ true
wanted_has w at zero q e lt h = absurd (omega arith)
wanted_has w at (suc k) q e lt h =
    elim (cases_lt q.id k) [
      | inl below ↦ has_left (wanted_ids w at k) _ q (wanted_has w at k q e below h)
      | inr le ↦ has_right (wanted_ids w at k) _ q (above_or_at w at k q e (omega arith) h)
    ]

wanted_at : (w : List Reached) (at k : ℕ) → AllByRecursion (λ (p : Reached). p.at ≡ at) (wanted_ids w at k)
wanted_at w at zero = tt
wanted_at w at (suc k) = joined (wanted_ids w at k) (wanted_at w at k) (has w (record { at = at; id = k }))
  where
    joined : (a : List Reached) → AllByRecursion (λ (p : Reached). p.at ≡ at) a → (t : Bool) → AllByRecursion (λ (p : Reached). p.at ≡ at) (a ++ cond t (record { at = at; id = k } ∷ []) [])
    joined [] h true = (refl, tt)
    joined [] h false = tt
    joined (p ∷ a) h t = (h.0, joined a h.1 t)

pub marked_has : (d : Dictionaries) (os : List Object) (at : ℕ) (w : List Reached) (q : Reached) → q.at < at → q.id < length d.types → has w q ≡ true → has (marked d os at w) q ≡ true
unfolding marked
marked_has d os zero w q lt small h = absurd (omega arith)
marked_has d os (suc at) w q lt small h =
    let ids = wanted_ids w at (length d.types) in
    let more = w ++ flat_map (reaches d os) ids in
    elim (cases_lt q.at at) [
      | inl below ↦ has_left (marked d os at more) ids q (marked_has d os at more q below small (has_left w (flat_map (reaches d os) ids) q h))
      | inr le ↦ has_right (marked d os at more) ids q (wanted_has w at (length d.types) q (omega arith) small h)
    ]

-- ---- each is behind what it reaches

abbrev pub AllHas : List Reached → List Reached → Type 0
AllHas before qs = AllByRecursion (λ q. has before q ≡ true) qs

unfoldable pub Closed : Dictionaries → List Object → List Reached → List Reached → Type 0
Closed d os before [] = Unit {0}
Closed d os before (p ∷ after) = AllHas before (reaches d os p) × Closed d os (before ++ p ∷ []) after

abbrev Below : Dictionaries → ℕ → List Reached → Type 0
Below d at qs = AllByRecursion (λ q. (q.at < at) × (q.id < length d.types)) qs

abbrev Within : Dictionaries → ℕ → ℕ → ℕ → Type 0
Within d at id j = (j < at) × (id < length d.types)

target_is : (line : TypeLine) (j : ℕ) → is_object_line (Some line) ≡ true → target (reference line j) ≡ j
target_is lines.Unit j e = absurd cc
target_is lines.Bool j e = absurd cc
target_is lines.Int j e = absurd cc
target_is lines.Text j e = refl
target_is (lines.Pair a b) j e = refl
target_is (lines.Sum a b) j e = refl
target_is (lines.List a) j e = refl
target_is (lines.Fun a) j e = refl
target_is lines.Cell j e = absurd cc
target_is (lines.Addr w) j e = absurd cc

one_below : (d : Dictionaries) (at id : ℕ) (v w : Value) → v ≡ w → (target w < at) × (id < length d.types) → Below d at (value_reaches true id v)
one_below d at id v w e h = (rw e h, tt)

pub value_below : (d : Dictionaries) (at id : ℕ) (line : Option TypeLine) (v : Value) → IsOf (Within d at) id line v → Below d at (value_reaches (is_object_line line) id v)
value_below d at id None v h = absurd h
value_below d at id (Some lines.Unit) v h = tt
value_below d at id (Some lines.Bool) v h = tt
value_below d at id (Some lines.Int) v h = tt
value_below d at id (Some lines.Cell) v h = tt
value_below d at id (Some (lines.Addr w)) v h = tt
value_below d at id (Some lines.Text) v h = one_below d at id v _ h.2 h.1
value_below d at id (Some (lines.Pair i j)) v h = one_below d at id v _ h.2 h.1
value_below d at id (Some (lines.Sum i j)) v h = one_below d at id v _ h.2 h.1
value_below d at id (Some (lines.List i)) v h = one_below d at id v _ h.2 h.1
value_below d at id (Some (lines.Fun i)) v h = one_below d at id v _ h.2 h.1

pub all_append : (P : Reached → Type 0) (a b : List Reached) → AllByRecursion P a → AllByRecursion P b → AllByRecursion P (a ++ b)
all_append P [] b h k = k
all_append P (p ∷ a) b h k = (h.0, all_append P a b h.1 k)

pub all_left : (P : Reached → Type 0) (a b : List Reached) → AllByRecursion P (a ++ b) → AllByRecursion P a
all_left P [] b h = tt
all_left P (p ∷ a) b h = (h.0, all_left P a b h.1)

pub all_right : (P : Reached → Type 0) (a b : List Reached) → AllByRecursion P (a ++ b) → AllByRecursion P b
all_right P [] b h = h
all_right P (p ∷ a) b h = all_right P a b h.1

values_below : (d : Dictionaries) (at : ℕ) (ids : List ℕ) (vs : List Value) → AreOf d (Within d at) ids vs → Below d at (values_reach d ids vs)
unfolding values_reach AreOf
values_below d at [] [] h = tt
values_below d at [] (v ∷ vs) h = absurd h
values_below d at (id ∷ ids) [] h = absurd h
values_below d at (id ∷ ids) (v ∷ vs) h = all_append _ (value_reaches (is_object_line (slice_get d.types id)) id v) (values_reach d ids vs) (value_below d at id (slice_get d.types id) v h.0) (values_below d at ids vs h.1)

opened_below : (d : Dictionaries) (at : ℕ) (p : Opening) (o : Object) → Closes d (Within d at) p o → Below d at (opened_reaches d (Some p) o)
opened_below d at (Whole bytes) o h = tt
opened_below d at (Parts first others) o h =
    subst (λ (x : Object). Below d at (values_reach d others (fields_behind first x))) (sym h.1)
    (rw (drop_at first h.0 (length first) refl) (values_below d at others h.0 h.2))

pub fit_below : (d : Dictionaries) (os : List Object) (p : Reached) (o : Option Object) → IsFit d os p o → Below d p.at (object_reaches d p.id o)
fit_below d os p None h = absurd h
fit_below d os p (Some o) h =
    subst (λ (x : Option Opening). Below d p.at (opened_reaches d x o)) (sym h.1) (opened_below d p.at h.0 o h.2)

-- each of some pairs is known in front, where what they want is
pub all_known : (d : Dictionaries) (at : ℕ) (front qs : List Reached) → ((q : Reached) → has qs q ≡ true → q.at < at → q.id < length d.types → has front q ≡ true) → Below d at qs → AllHas front qs
all_known d at front [] known h = tt
all_known d at front (q ∷ qs) known h = (known q (has_head q qs) h.0.0 h.0.1, all_known d at front qs (λ (r : Reached) e lt small. known r (has_tail q qs r e) lt small) h.1)

each_known : (d : Dictionaries) (os : List Object) (at : ℕ) (front part : List Reached) → ((q : Reached) → has (flat_map (reaches d os) part) q ≡ true → q.at < at → q.id < length d.types → has front q ≡ true) → AreFit d os part → AllByRecursion (λ (p : Reached). p.at ≡ at) part → AllByRecursion (λ (p : Reached). AllHas front (reaches d os p)) part
each_known d os at front [] known fits here = tt
each_known d os at front (p ∷ part) known fits here = (
  all_known d at front (reaches d os p) (λ (q : Reached) e lt small. known q (has_left (reaches d os p) (flat_map (reaches d os) part) q e) lt small) (subst (λ (n : ℕ). Below d n (reaches d os p)) here.0 (fit_below d os p (slice_get os p.at) fits.0)),
  each_known d os at front part (λ (q : Reached) e lt small. known q (has_right (reaches d os p) (flat_map (reaches d os) part) q e) lt small) fits.1 here.1,
)

all_more : (before more qs : List Reached) → AllHas before qs → AllHas (before ++ more) qs
all_more before more [] h = tt
all_more before more (q ∷ qs) h = (has_left before more q h.0, all_more before more qs h.1)

closed_known : (d : Dictionaries) (os : List Object) (front more part : List Reached) → AllByRecursion (λ (p : Reached). AllHas front (reaches d os p)) part → Closed d os (front ++ more) part
unfolding Closed
closed_known d os front more [] h = tt
closed_known d os front more (p ∷ part) h =
    (all_more front more (reaches d os p) h.0, subst (λ (b : List Reached). Closed d os b part) (sym (append_assoc front more (p ∷ []))) (closed_known d os front (more ++ p ∷ []) part h.1))

closed_append : (d : Dictionaries) (os : List Object) (before a b : List Reached) → Closed d os before a → Closed d os (before ++ a) b → Closed d os before (a ++ b)
unfolding Closed
closed_append d os before [] b h k = subst (λ (x : List Reached). Closed d os x b) (append-nil before) k
closed_append d os before (p ∷ a) b h k = (h.0, closed_append d os (before ++ p ∷ []) a b h.1 (subst (λ (x : List Reached). Closed d os x b) (sym (append_assoc before (p ∷ []) a)) k))

pub closed_marked : (d : Dictionaries) (os : List Object) (at : ℕ) (w : List Reached) → AreFit d os (marked d os at w) → Closed d os [] (marked d os at w)
unfolding marked Closed
closed_marked d os zero w h = tt
closed_marked d os (suc at) w h =
    let ids = wanted_ids w at (length d.types) in
    let more = w ++ flat_map (reaches d os) ids in
    let front = marked d os at more in
    let known = each_known d os at front ids (λ (q : Reached) e lt small. marked_has d os at more q lt small (has_right w (flat_map (reaches d os) ids) q e)) (all_right _ front ids h) (wanted_at w at (length d.types)) in
    closed_append d os [] front ids (closed_marked d os at more (all_left _ front ids h))
    (subst (λ (x : List Reached). Closed d os x ids) (append-nil front) (closed_known d os front [] ids known))
