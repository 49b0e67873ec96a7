-- What is marked rises, comes from what is wanted, and is found by going down from the greatest.
use Rattle.std.proofs.Common.{◌≡◌, ◌⊎◌, ℕ, zero, suc, ◌<◌, ◌≤◌, ◌^◌, Bool, true, false, cond, List, [], ◌∷◌, ◌++◌, length, slice_get, refl, sym, ap, subst, ◌∙◌, append_assoc, append-nil, arith, inl, inr}
use Rattle.std.specs.List.{flat_map, AllByRecursion}
use Rattle.m5_region.specs.Region.{Object}
use Rattle.m5_dictionary.specs.Dictionaries.{Dictionaries}
use Rattle.m5_message.specs.Packing.{Reached, same, has, reaches, wanted_ids, marked, IsFit, AreFit}
use Rattle.m5_marshal.specs.code.Keys.{rank, IsNarrow, Rising, IsWhole}
use Rattle.m5_message.proofs.Marks.{same_is, has_left, has_right, has_head, has_tail, Closed, closed_marked, fit_below, all_left}

-- ---- pairs in lists

pub has_cases : (a b : List Reached) (q : Reached) → has (a ++ b) q ≡ true → (has a q ≡ true) ⊎ (has b q ≡ true)
has_cases [] b q e = inr e
has_cases (p ∷ a) b q e = by_test (same p q) (λ h. has_cases a b q h) e
  where
    by_test : (t : Bool) → (has (a ++ b) q ≡ true → (has a q ≡ true) ⊎ (has b q ≡ true)) → cond t true (has (a ++ b) q) ≡ true → (cond t true (has a q) ≡ true) ⊎ (has b q ≡ true)
    by_test true go h = inl refl
    by_test false go h = go h

pub head_cases : (p : Reached) (ps : List Reached) (q : Reached) → has (p ∷ ps) q ≡ true → (p ≡ q) ⊎ (has ps q ≡ true)
head_cases p ps q e = by_test (same p q) refl e
  where
    by_test : (t : Bool) → same p q ≡ t → cond t true (has ps q) ≡ true → (p ≡ q) ⊎ (has ps q ≡ true)
    by_test true s h = inl (same_is p q s)
    by_test false s h = inr h

pub all_at : (P : Reached → Type 0) (ps : List Reached) (q : Reached) → AllByRecursion P ps → has ps q ≡ true → P q
all_at P [] q h e = absurd cc
all_at P (p ∷ ps) q h e = elim (head_cases p ps q e) [ inl s ↦ subst P s h.0 | inr t ↦ all_at P ps q h.1 t ]

pub all_of : (P : Reached → Type 0) (ps : List Reached) → ((q : Reached) → has ps q ≡ true → P q) → AllByRecursion P ps
all_of P [] h = tt
all_of P (p ∷ ps) h = (h p (has_head p ps), all_of P ps (λ (q : Reached) e. h q (has_tail p ps q e)))

-- a pair that some of these reach
pub data FromOne (f : Reached → List Reached) (ps : List Reached) (q : Reached) : Type 0 where
  One : (p : Reached) → has ps p ≡ true → has (f p) q ≡ true → FromOne f ps q

pub from_one : (f : Reached → List Reached) (ps : List Reached) (q : Reached) → has (flat_map f ps) q ≡ true → FromOne f ps q
from_one f [] q e = absurd cc
from_one f (p ∷ ps) q e = elim (has_cases (f p) (flat_map f ps) q e) [ inl h ↦ One p (has_head p ps) h | inr h ↦ elim (from_one f ps q h) [ One r s t ↦ One r (has_tail p ps r s) t ] ]

pub to_one : (f : Reached → List Reached) (ps : List Reached) (p q : Reached) → has ps p ≡ true → has (f p) q ≡ true → has (flat_map f ps) q ≡ true
to_one f [] p q e h = absurd cc
to_one f (r ∷ ps) p q e h = elim (head_cases r ps p e) [
  | inl s ↦ has_left (f r) (flat_map f ps) q (subst (λ (x : Reached). has (f x) q ≡ true) (sym s) h)
  | inr t ↦ has_right (f r) (flat_map f ps) q (to_one f ps p q t h)
]

-- ---- the order of pairs

pub rank_is : (p q : Reached) → IsNarrow p → IsNarrow q → rank p ≡ rank q → p ≡ q
rank_is p q a b e =
    let at : p.at ≡ q.at = omega arith in
    let id : p.id ≡ q.id = omega arith in
    ap (λ (n : ℕ). record { at = n; id = p.id }) at ∙ ap (λ (n : ℕ). record { at = q.at; id = n }) id

pub rising_append : (a b : List Reached) → Rising a → Rising b → ((p q : Reached) → has a p ≡ true → has b q ≡ true → rank p < rank q) → Rising (a ++ b)
unfolding Rising
rising_append [] b h k l = k
rising_append (p ∷ a) b h k l = (
  all_of (λ q. rank p < rank q) (a ++ b) (λ (q : Reached) e. elim (has_cases a b q e) [ inl s ↦ all_at (λ q. rank p < rank q) a q h.0 s | inr s ↦ l p q (has_head p a) s ]),
  rising_append a b h.1 k (λ (r q : Reached) e f. l r q (has_tail p a r e) f),
)

pub rising_across : (a b : List Reached) (p q : Reached) → Rising (a ++ b) → has a p ≡ true → has b q ≡ true → rank p < rank q
unfolding Rising
rising_across [] b p q h e f = absurd cc
rising_across (r ∷ a) b p q h e f = elim (head_cases r a p e) [
  | inl s ↦ subst (λ (x : Reached). rank x < rank q) s (all_at (λ q. rank r < rank q) (a ++ b) q h.0 (has_right a b q f))
  | inr s ↦ rising_across a b p q h.1 s f
]

pub rising_front : (a b : List Reached) → Rising (a ++ b) → Rising a
unfolding Rising
rising_front [] b h = tt
rising_front (p ∷ a) b h = (all_left (λ q. rank p < rank q) a b h.0, rising_front a b h.1)

-- ---- what is marked

pub wanted_here : (w : List Reached) (at k : ℕ) (q : Reached) → has (wanted_ids w at k) q ≡ true → (q.at ≡ at) × (q.id < k) × (has w q ≡ true)
wanted_here w at zero q e = absurd cc
wanted_here w at (suc k) q e = elim (has_cases (wanted_ids w at k) _ q e) [
  | inl h ↦ (let r = wanted_here w at k q h in (r.0, omega (arith, r.1), r.2))
  | inr h ↦ by_test (has w (record { at = at; id = k })) refl h
]
  where
    by_test : (t : Bool) → has w (record { at = at; id = k }) ≡ t → has (cond t (record { at = at; id = k } ∷ []) []) q ≡ true → (q.at ≡ at) × (q.id < suc k) × (has w q ≡ true)
    by_test false s h = absurd (let no : false ≡ true = h in cc)
    by_test true s h = elim (head_cases (record { at = at; id = k }) [] q h) [
      | inl is ↦ subst (λ (x : Reached). (x.at ≡ at) × (x.id < suc k) × (has w x ≡ true)) is (refl, omega arith, s)
      | inr z ↦ absurd (let wrong : false ≡ true = z in cc)
    ]

wanted_rises : (w : List Reached) (at k : ℕ) → k ≤ 2 ^ 32 → Rising (wanted_ids w at k)
unfolding Rising
wanted_rises w at zero small = tt
wanted_rises w at (suc k) small = by_test (has w (record { at = at; id = k })) (wanted_rises w at k (omega arith))
  where
    by_test : (t : Bool) → Rising (wanted_ids w at k) → Rising (wanted_ids w at k ++ cond t (record { at = at; id = k } ∷ []) [])
    by_test false go = subst Rising (sym (append-nil (wanted_ids w at k))) go
    by_test true go = rising_append (wanted_ids w at k) (record { at = at; id = k } ∷ []) go (tt, tt) (λ (p q : Reached) e f.
        let here = wanted_here w at k p e in
        elim (head_cases (record { at = at; id = k }) [] q f) [
          | inl is ↦ subst (λ (x : Reached). rank p < rank x) is (omega (arith, here.0, here.1))
          | inr z ↦ absurd (let wrong : false ≡ true = z in cc)
        ])

-- each is at an object below the number, of an id below the number of types
pub marked_below : (d : Dictionaries) (os : List Object) (at : ℕ) (w : List Reached) (q : Reached) → has (marked d os at w) q ≡ true → (q.at < at) × (q.id < length d.types)
unfolding marked
marked_below d os zero w q e = absurd cc
marked_below d os (suc at) w q e =
    let ids = wanted_ids w at (length d.types) in
    let more = w ++ flat_map (reaches d os) ids in
    elim (has_cases (marked d os at more) ids q e) [
      | inl h ↦ (let r = marked_below d os at more q h in (omega (arith, r.0), r.1))
      | inr h ↦ (let r = wanted_here w at (length d.types) q h in (omega (arith, r.0), r.1))
    ]

pub marked_rises : (d : Dictionaries) (os : List Object) (at : ℕ) (w : List Reached) → length d.types < 2 ^ 32 → Rising (marked d os at w)
unfolding marked Rising
marked_rises d os zero w small = tt
marked_rises d os (suc at) w small =
    let ids = wanted_ids w at (length d.types) in
    let more = w ++ flat_map (reaches d os) ids in
    rising_append (marked d os at more) ids (marked_rises d os at more small) (wanted_rises w at (length d.types) (omega arith)) (λ (p q : Reached) e f.
    let below = marked_below d os at more p e in
    let here = wanted_here w at (length d.types) q f in
    omega (arith, below.0, below.1, here.0))

-- each was wanted at first or is reached by another
pub marked_from : (d : Dictionaries) (os : List Object) (at : ℕ) (w : List Reached) (q : Reached) → has (marked d os at w) q ≡ true → has (w ++ flat_map (reaches d os) (marked d os at w)) q ≡ true
unfolding marked
marked_from d os zero w q e = absurd cc
marked_from d os (suc at) w q e =
    let ids = wanted_ids w at (length d.types) in
    let more = w ++ flat_map (reaches d os) ids in
    let front = marked d os at more in
    let all = flat_map (reaches d os) (front ++ ids) in
    elim (has_cases front ids q e) [
      | inr h ↦ has_left w all q (wanted_here w at (length d.types) q h).2
      | inl h ↦ elim (has_cases more (flat_map (reaches d os) front) q (marked_from d os at more q h)) [
        | inr k ↦ elim (from_one (reaches d os) front q k) [ One p s t ↦ has_right w all q (to_one (reaches d os) (front ++ ids) p q (has_left front ids p s) t) ]
        | inl k ↦ elim (has_cases w (flat_map (reaches d os) ids) q k) [
          | inl m ↦ has_left w all q m
          | inr m ↦ elim (from_one (reaches d os) ids q m) [ One p s t ↦ has_right w all q (to_one (reaches d os) (front ++ ids) p q (has_right front ids p s) t) ]
        ]
      ]
    ]

closed_at : (d : Dictionaries) (os : List Object) (before after : List Reached) (p q : Reached) → Closed d os before after → has after p ≡ true → has (reaches d os p) q ≡ true → has (before ++ after) q ≡ true
unfolding Closed
closed_at d os before [] p q h e f = absurd cc
closed_at d os before (r ∷ after) p q h e f = elim (head_cases r after p e) [
  | inl s ↦ has_left before (r ∷ after) q (all_at (λ x. has before x ≡ true) (reaches d os r) q h.0 (subst (λ (x : Reached). has (reaches d os x) q ≡ true) (sym s) f))
  | inr s ↦ subst (λ (x : List Reached). has x q ≡ true) (append_assoc before (r ∷ []) after) (closed_at d os (before ++ r ∷ []) after p q h.1 s f)
]

pub marked_whole : (d : Dictionaries) (os : List Object) (at : ℕ) (w : List Reached) → length d.types < 2 ^ 32 → AreFit d os (marked d os at w) → IsWhole d os w (marked d os at w)
marked_whole d os at w small fit = record {
  rises = marked_rises d os at w small;
  narrow = λ (q : Reached) e. omega (arith, (marked_below d os at w q e).1);
  from = marked_from d os at w;
  reached = λ (p q : Reached) e f. closed_at d os [] (marked d os at w) p q (closed_marked d os at w fit) e f;
  falls = λ (p q : Reached) e f.
      let good = all_at (λ x. IsFit d os x (slice_get os x.at)) (marked d os at w) p fit e in
      let below = all_at (λ x. (x.at < p.at) × (x.id < length d.types)) (reaches d os p) q (fit_below d os p (slice_get os p.at) good) f in
      omega (arith, below.0, below.1);
  fit = λ (q : Reached) e. all_at (λ x. IsFit d os x (slice_get os x.at)) (marked d os at w) q fit e;
}
