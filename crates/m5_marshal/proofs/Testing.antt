-- Testing what is reached, from the greatest pair down.
use Rattle.std.proofs.Common.{◌≡◌, ◌⊎◌, ℕ, zero, suc, ◌+◌, ◌<◌, ◌≤◌, ◌^◌, true, false, List, [], ◌∷◌, ◌++◌, length, slice_get, Some, refl, sym, subst, arith, inl, inr, IsSomeAnd, Option, None}
use Rattle.std.specs.Prelude.{max}
use Rattle.std.specs.List.{flat_map}
use Rattle.std.proofs.Math.Nat.{le-max_left, le-max_right, max-le}
use Rattle.std.proofs.lemmas.Option.{slice_get_within}
use Rattle.m5_region.specs.Region.{Object, ReferToOlder}
use Rattle.m5_dictionary.specs.declared.line.TypeLine.{TypeLine}
use Rattle.m5_dictionary.specs.Dictionaries.{Dictionaries}
use Rattle.m5_message.specs.Packing.{Reached, has, reaches, wanted_ids, marked, IsFit, AreFit}
use Rattle.m5_message.proofs.Marks.{has_left, has_head, has_tail, marked_has, fit_below}
use Rattle.m5_marshal.specs.code.Adding.{IsKind}
use Rattle.m5_marshal.specs.code.Keys.{HasMore, rank}
use Rattle.m5_marshal.specs.code.Fits.{IsKinded, AreKinded, FewFit}
use Rattle.m5_marshal.proofs.Marked.{has_cases, head_cases, all_at, all_of, from_one, One, marked_whole, wanted_here}
use Rattle.m5_marshal.proofs.Fitting.{reaches_kinded}
use Rattle.m5_marshal.proofs.Walking.{Walk, walk_begins, walk_goes_on, walk_more, walk_ends, walk_in}

-- ---- the greatest of what is to be tested

-- above each of the ranks
unfoldable pub top : List Reached → ℕ
top [] = 0
top (p ∷ ps) = max (suc (rank p)) (top ps)

pub top_above : (ps : List Reached) (q : Reached) → has ps q ≡ true → rank q < top ps
unfolding top
top_above [] q e = absurd (let wrong : false ≡ true = e in cc)
top_above (p ∷ ps) q e = elim (head_cases p ps q e) [
  | inl same ↦ subst (λ (x : Reached). rank x < max (suc (rank p)) (top ps)) same (let le = le-max_left (suc (rank p)) (top ps) in omega (arith, le))
  | inr there ↦ (let le = le-max_right (suc (rank p)) (top ps) in let lt = top_above ps q there in omega (arith, le, lt))
]

pub top_least : (ps : List Reached) (n : ℕ) → ((q : Reached) → has ps q ≡ true → rank q < n) → top ps ≤ n
unfolding top
top_least [] n h = omega arith
top_least (p ∷ ps) n h = max-le (let lt = h p (has_head p ps) in omega (arith, lt)) (top_least ps n (λ (q : Reached) e. h q (has_tail p ps q e)))

line_there : (d : Dictionaries) (id : ℕ) (m : Option Object) → IsSomeAnd m (IsKind (slice_get d.types id)) → id < length d.types
line_there d id m h = by_line (slice_get d.types id) refl m h
  where
    by_line : (l : Option TypeLine) → slice_get d.types id ≡ l → (m : Option Object) → IsSomeAnd m (IsKind l) → id < length d.types
    by_line l is None k = absurd k
    by_line None is (Some o) k = absurd k
    by_line (Some line) is (Some o) k = slice_get_within d.types id line is

object_there : (os : List Object) (at : ℕ) (K : Object → Type 0) → IsSomeAnd (slice_get os at) K → at < length os
object_there os at K h = by_object (slice_get os at) refl h
  where
    by_object : (m : Option Object) → slice_get os at ≡ m → IsSomeAnd m K → at < length os
    by_object None is k = absurd k
    by_object (Some o) is k = slice_get_within os at o is

pub kinded_below : (d : Dictionaries) (os : List Object) (q : Reached) → IsKinded d os q → (q.at < length os) × (q.id < length d.types)
kinded_below d os q h = (object_there os q.at (IsKind (slice_get d.types q.id)) h, line_there d q.id (slice_get os q.at) h)

-- what is left when the greatest was taken off, and what it reaches, is below it
pub left_below : (d : Dictionaries) (os : List Object) (us next : List Reached) (k : Reached) → length d.types < 2 ^ 32 → ((q : Reached) → has us q ≡ true → rank q < rank k) → IsFit d os k (slice_get os k.at) → HasMore us (reaches d os k) next → (q : Reached) → has next q ≡ true → rank q < rank k
left_below d os us next k few below fit more q e = elim (has_cases us (reaches d os k) q (more.only q e)) [
  | inl s ↦ below q s
  | inr s ↦ (let low = all_at (λ x. (x.at < k.at) × (x.id < length d.types)) (reaches d os k) q (fit_below d os k (slice_get os k.at) fit) s in omega (arith, low.0, low.1, few))
]

-- ---- what the loop keeps

-- some were tested; what they reach, and what was wanted, was tested or is to be tested
pub record Testing (d : Dictionaries) (os : List Object) (w todo : List Reached) (n : ℕ) : Type 0 where
  pub seen : List Reached
  pub count : length seen ≡ n
  pub kinded : AreKinded d os todo
  pub covered : (q : Reached) → has w q ≡ true → (has todo q ≡ true) ⊎ (has seen q ≡ true)
  pub closed : (p q : Reached) → has seen p ≡ true → has (reaches d os p) q ≡ true → (has todo q ≡ true) ⊎ (has seen q ≡ true)
  pub fit : (q : Reached) → has seen q ≡ true → IsFit d os q (slice_get os q.at)
  pub walk : AreFit d os (marked d os (length os) w) → Walk d os w (marked d os (length os) w) todo seen

pub testing_begins : (d : Dictionaries) (os : List Object) (w : List Reached) (count : ℕ) → count ≡ 0 → AreKinded d os w → Testing d os w w count
testing_begins d os w count none kinded = record {
  seen = [];
  count = sym none;
  kinded = kinded;
  covered = λ (q : Reached) e. inl e;
  closed = λ (p q : Reached) e. absurd (let wrong : false ≡ true = e in cc);
  fit = λ (q : Reached) e. absurd (let wrong : false ≡ true = e in cc);
  walk = λ fits. walk_begins d os w (marked d os (length os) w) w
      (record { kept = λ (q : Reached) e. absurd (let wrong : false ≡ true = e in cc); added = λ (q : Reached) e. e; only = λ (q : Reached) e. e })
      (λ (q : Reached) e. let low = kinded_below d os q (kinded q e) in marked_has d os (length os) w q low.0 low.1 e);
}

-- where a pair is when the greatest was tested
moved : (d : Dictionaries) (os : List Object) (us todo next seen : List Reached) (k q : Reached) → todo ≡ us ++ k ∷ [] → HasMore us (reaches d os k) next → (has todo q ≡ true) ⊎ (has seen q ≡ true) → (has next q ≡ true) ⊎ (has (k ∷ seen) q ≡ true)
moved d os us todo next seen k q split more h = elim h [
  | inr s ↦ inr (has_tail k seen q s)
  | inl s ↦ elim (has_cases us (k ∷ []) q (subst (λ (x : List Reached). has x q ≡ true) split s)) [
    | inl t ↦ inl (more.kept q t)
    | inr t ↦ elim (head_cases k [] q t) [
      | inl same ↦ inr (subst (λ (x : Reached). has (k ∷ seen) x ≡ true) same (has_head k seen))
      | inr z ↦ absurd (let wrong : false ≡ true = z in cc)
    ]
  ]
]

pub testing_goes_on : (d : Dictionaries) (os : List Object) (w todo us next : List Reached) (k : Reached) (count more_count : ℕ) → length d.types < 2 ^ 32 → ReferToOlder os → Testing d os w todo count → more_count ≡ count + 1 → todo ≡ us ++ k ∷ [] → ((q : Reached) → has us q ≡ true → rank q < rank k) → IsFit d os k (slice_get os k.at) → HasMore us (reaches d os k) next → Testing d os w next more_count
testing_goes_on d os w todo us next k count more_count few older t counted split below fit more = record {
  seen = k ∷ t.seen;
  count = omega (arith, t.count, counted);
  kinded = λ (q : Reached) e. elim (has_cases us (reaches d os k) q (more.only q e)) [
    | inl s ↦ t.kinded q (subst (λ (x : List Reached). has x q ≡ true) (sym split) (has_left us (k ∷ []) q s))
    | inr s ↦ reaches_kinded d os k older fit q s
  ];
  covered = λ (q : Reached) e. moved d os us todo next t.seen k q split more (t.covered q e);
  closed = λ (p q : Reached) e f. elim (head_cases k t.seen p e) [
    | inl same ↦ inl (more.added q (subst (λ (x : Reached). has (reaches d os x) q ≡ true) (sym same) f))
    | inr s ↦ moved d os us todo next t.seen k q split more (t.closed p q s f)
  ];
  fit = λ (q : Reached) e. elim (head_cases k t.seen q e) [
    | inl same ↦ subst (λ (x : Reached). IsFit d os x (slice_get os x.at)) same fit
    | inr s ↦ t.fit q s
  ];
  walk = λ fits. walk_goes_on d os w (marked d os (length os) w) todo t.seen us next k (marked_whole d os (length os) w few fits) (t.walk fits) split below more;
}

-- ---- the three ways out

-- the greatest is not fit, or is one too many
pub not_few_fit : (d : Dictionaries) (os : List Object) (w todo : List Reached) (k : Reached) (count : ℕ) → length d.types < 2 ^ 32 → Testing d os w todo count → has todo k ≡ true → (count ≡ 4294967295) ⊎ (IsFit d os k (slice_get os k.at) → ⊥) → FewFit d os (marked d os (length os) w) → ⊥
not_few_fit d os w todo k count few t there why fits = elim why [
  | inl all ↦ (let lt = walk_more d os w (marked d os (length os) w) todo t.seen k (t.walk fits.0) there in omega (arith, lt, t.count, all, fits.1))
  | inr none ↦ none (all_at (λ x. IsFit d os x (slice_get os x.at)) (marked d os (length os) w) k fits.0 (walk_in d os w (marked d os (length os) w) todo t.seen k (t.walk fits.0) there))
]

-- what is marked is among some that have all that they reach
all_marked : (d : Dictionaries) (os : List Object) (seen : List Reached) → ((p q : Reached) → has seen p ≡ true → has (reaches d os p) q ≡ true → has seen q ≡ true) → (at : ℕ) (w : List Reached) → ((q : Reached) → has w q ≡ true → has seen q ≡ true) → (q : Reached) → has (marked d os at w) q ≡ true → has seen q ≡ true
unfolding marked
all_marked d os seen closed zero w among q e = absurd (let wrong : false ≡ true = e in cc)
all_marked d os seen closed (suc at) w among q e =
    let ids = wanted_ids w at (length d.types) in
    let more = w ++ flat_map (reaches d os) ids in
    elim (has_cases (marked d os at more) ids q e) [
      | inr h ↦ among q (wanted_here w at (length d.types) q h).2
      | inl h ↦ all_marked d os seen closed at more (λ (r : Reached) f. elim (has_cases w (flat_map (reaches d os) ids) r f) [
        | inl s ↦ among r s
        | inr s ↦ elim (from_one (reaches d os) ids r s) [ One p i g ↦ closed p r (among p (wanted_here w at (length d.types) p i).2) g ]
      ]) q h
    ]

pub all_few_fit : (d : Dictionaries) (os : List Object) (w : List Reached) (count : ℕ) → length d.types < 2 ^ 32 → count < 2 ^ 32 → Testing d os w [] count → FewFit d os (marked d os (length os) w)
all_few_fit d os w count few small t = (fits, subst (λ (x : List Reached). length x < 2 ^ 32) (sym same) (omega (arith, t.count, small)))
  where
    tested : (q : Reached) → (has [] q ≡ true) ⊎ (has t.seen q ≡ true) → has t.seen q ≡ true
    tested q h = elim h [ inl z ↦ absurd (let wrong : false ≡ true = z in cc) | inr s ↦ s ]

    fits : AreFit d os (marked d os (length os) w)
    fits = all_of (λ x. IsFit d os x (slice_get os x.at)) (marked d os (length os) w) (λ (q : Reached) e.
        t.fit q (all_marked d os t.seen (λ (p r : Reached) f g. tested r (t.closed p r f g)) (length os) w (λ (r : Reached) f. tested r (t.covered r f)) q e))

    same : marked d os (length os) w ≡ t.seen
    same = walk_ends d os w (marked d os (length os) w) t.seen (marked_whole d os (length os) w few fits) (t.walk fits)
