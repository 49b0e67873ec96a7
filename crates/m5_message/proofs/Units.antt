-- What is sent takes no more units than the thread as trees: each pair that is sent is paid for by a place where it is wanted.
use Rattle.std.proofs.Common.{◌≡◌, ℕ, zero, suc, ◌+◌, ◌<◌, ◌≤◌, Bool, true, false, cond, ltb, eqb, ◌&&◌, List, [], ◌∷◌, ◌++◌, length, map, take, drop, Option, Some, None, slice_get, refl, sym, ap, subst, ◌∙◌, length-append, arith, inl, inr}
use Rattle.std.specs.Prelude.{unwrap_or}
use Rattle.std.specs.List.{flat_map}
use Rattle.std.proofs.lemmas.Bool.{cases_lt, lt-ltb, le-ltb, eq-eqb, ne_eqb}
use Rattle.std.proofs.lemmas.List.{drop_at}
use Rattle.m5_region.specs.declared.value.Value.{Value}
use Rattle.m5_region.specs.Region.{Object, ArrayOf, units_of, units_in}
use Rattle.m5_terms.specs.declared.types.World.{World}
use Rattle.m5_dictionary.specs.declared.line.TypeLine.{TypeLine}
use Rattle.m5_dictionary.specs.declared.line.TypeLine.TheVariants as lines
use Rattle.m5_dictionary.specs.Dictionaries.{Dictionaries}
use Rattle.m5_message.specs.Reading.{Opening, Whole, Parts, reference, is_object_line}
use Rattle.m5_message.specs.Spelling.{fields_behind, IsOf, AreOf, Closes}
use Rattle.m5_message.specs.Tree.{Tree, Leaf, tree_of, trees_of, object_tree, grown}
use Rattle.m5_message.specs.Packing.{Reached, same, has, target, value_reaches, values_reach, opened_reaches, object_reaches, reaches, wanted_ids, marked, sent_values, sent_opened, sent_object, sent, Sending, sent_from, message_of, IsFit, AreFit, IsSendable, thread_tree}
use Rattle.m5_message.specs.Sharing.{tree_units, fields_units}
use Rattle.m5_message.specs.Laws.{ArrivesLight}
use Rattle.m5_message.proofs.Again.{message_again}
use Rattle.m5_message.proofs.Marks.{same_is, all_left, all_right}
use Rattle.m5_message.proofs.Sent.{tree_at, Within, SameBelow, grown_at, older_tree}
use Rattle.m5_message.proofs.Packs.{packs}

-- ---- what pairs cost, all of them, those at an object, and those at older ones

cost : List Tree → Reached → ℕ
cost rs q = tree_units (tree_at rs q.at)

total : List Tree → List Reached → ℕ
total rs [] = 0
total rs (q ∷ qs) = cost rs q + total rs qs

pick : Bool → ℕ → ℕ
pick true n = n
pick false n = 0

here : List Tree → ℕ → ℕ → List Reached → ℕ
here rs at k [] = 0
here rs at k (q ∷ w) = pick (eqb q.at at && ltb q.id k) (cost rs q) + here rs at k w

below : List Tree → ℕ → List Reached → ℕ
below rs at [] = 0
below rs at (q ∷ w) = pick (ltb q.at at) (cost rs q) + below rs at w

total_append : (rs : List Tree) (a b : List Reached) → total rs (a ++ b) ≡ total rs a + total rs b
unfolding total
total_append rs [] b = omega arith
total_append rs (q ∷ a) b = omega (arith, total_append rs a b)

below_append : (rs : List Tree) (at : ℕ) (a b : List Reached) → below rs at (a ++ b) ≡ below rs at a + below rs at b
unfolding below
below_append rs at [] b = omega arith
below_append rs at (q ∷ a) b = omega (arith, below_append rs at a b)

pick_most : (b : Bool) (n : ℕ) → pick b n ≤ n
unfolding pick
pick_most true n = omega arith
pick_most false n = omega arith

below_total : (rs : List Tree) (at : ℕ) (a : List Reached) → below rs at a ≤ total rs a
unfolding below total
below_total rs at [] = omega arith
below_total rs at (q ∷ a) = omega (arith, pick_most (ltb q.at at) (cost rs q), below_total rs at a)

-- ---- the ids that are wanted at an object are paid for there

grows_id : (b : Bool) (i k n : ℕ) → pick (b && ltb i k) n ≤ pick (b && ltb i (suc k)) n
unfolding pick
grows_id false i k n = omega arith
grows_id true i k n = elim (cases_lt i k) [
  | inl lt ↦ rw (lt-ltb i k lt, lt-ltb i (suc k) (omega arith)) (omega arith)
  | inr le ↦ rw (le-ltb i k le) (omega arith)
]

here_grows : (rs : List Tree) (at k : ℕ) (w : List Reached) → here rs at k w ≤ here rs at (suc k) w
unfolding here
here_grows rs at k [] = omega arith
here_grows rs at k (q ∷ w) = omega (arith, grows_id (eqb q.at at) q.id k (cost rs q), here_grows rs at k w)

here_has : (rs : List Tree) (at k : ℕ) (w : List Reached) → has w (record { at = at; id = k }) ≡ true → here rs at k w + tree_units (tree_at rs at) ≤ here rs at (suc k) w
unfolding here cost pick
here_has rs at k [] e = absurd cc
here_has rs at k (q ∷ w) e = by_test (same q (record { at = at; id = k })) refl (λ h. here_has rs at k w h) e
  where
    one : pick (eqb at at && ltb k k) (tree_units (tree_at rs at)) + tree_units (tree_at rs at) ≤ pick (eqb at at && ltb k (suc k)) (tree_units (tree_at rs at))
    one = rw (eq-eqb at at refl, le-ltb k k (omega arith), lt-ltb k (suc k) (omega arith)) (omega arith)

    by_test : (b : Bool) → same q (record { at = at; id = k }) ≡ b → (has w (record { at = at; id = k }) ≡ true → here rs at k w + tree_units (tree_at rs at) ≤ here rs at (suc k) w) → cond b true (has w (record { at = at; id = k })) ≡ true →
        (pick (eqb q.at at && ltb q.id k) (cost rs q) + here rs at k w) + tree_units (tree_at rs at) ≤ pick (eqb q.at at && ltb q.id (suc k)) (cost rs q) + here rs at (suc k) w
    by_test true s go h =
        subst (λ (r : Reached). (pick (eqb r.at at && ltb r.id k) (tree_units (tree_at rs r.at)) + here rs at k w) + tree_units (tree_at rs at) ≤ pick (eqb r.at at && ltb r.id (suc k)) (tree_units (tree_at rs r.at)) + here rs at (suc k) w)
        (sym (same_is q (record { at = at; id = k }) s)) (omega (arith, one, here_grows rs at k w))
    by_test false s go h = omega (arith, go h, grows_id (eqb q.at at) q.id k (tree_units (tree_at rs q.at)))

wanted_paid : (rs : List Tree) (w : List Reached) (at k : ℕ) → total rs (wanted_ids w at k) ≤ here rs at k w
unfolding total cost
wanted_paid rs w at zero = omega arith
wanted_paid rs w at (suc k) = by_test (has w (record { at = at; id = k })) refl (wanted_paid rs w at k)
  where
    by_test : (b : Bool) → has w (record { at = at; id = k }) ≡ b → total rs (wanted_ids w at k) ≤ here rs at k w → total rs (wanted_ids w at k ++ cond b (record { at = at; id = k } ∷ []) []) ≤ here rs at (suc k) w
    by_test true h paid = omega (arith, total_append rs (wanted_ids w at k) (record { at = at; id = k } ∷ []), here_has rs at k w h)
    by_test false h paid = omega (arith, total_append rs (wanted_ids w at k) [], here_grows rs at k w)

one_here : (a i at k n : ℕ) → pick (eqb a at && ltb i k) n + pick (ltb a at) n ≤ pick (ltb a (suc at)) n
unfolding pick
one_here a i at k n = elim (cases_lt a at) [
  | inl lt ↦ rw (ne_eqb a at (λ (e : a ≡ at). omega arith), lt-ltb a at lt, lt-ltb a (suc at) (omega arith)) (omega arith)
  | inr le ↦ elim (cases_lt a (suc at)) [
    | inl lt ↦ rw (le-ltb a at le, lt-ltb a (suc at) lt) (omega (arith, pick_most (eqb a at && ltb i k) n))
    | inr more ↦ rw (ne_eqb a at (λ (e : a ≡ at). omega arith), le-ltb a at le) (omega arith)
  ]
]

here_below : (rs : List Tree) (at k : ℕ) (w : List Reached) → here rs at k w + below rs at w ≤ below rs (suc at) w
unfolding here below
here_below rs at k [] = omega arith
here_below rs at k (q ∷ w) = omega (arith, one_here q.at q.id at k (cost rs q), here_below rs at k w)

-- ---- an object pays for its units and for what it reaches

reference_light : (rs pre : List Tree) (at id j : ℕ) (line : TypeLine) (v : Value) → SameBelow pre rs at → j < at → v ≡ reference line j → target (reference line j) ≡ j → tree_of pre (reference line j) ≡ tree_at pre j → total rs (record { at = target v; id = id } ∷ []) ≤ tree_units (tree_of pre v)
unfolding total cost
reference_light rs pre at id j line v same lt is there tree =
    let cost_is : tree_units (tree_at rs (target v)) ≡ tree_units (tree_of pre v) =
    ap (λ (x : Value). tree_units (tree_at rs (target x))) is ∙ ap (λ (n : ℕ). tree_units (tree_at rs n)) there
    ∙ ap tree_units (sym (same j lt) ∙ sym tree) ∙ ap (λ (x : Value). tree_units (tree_of pre x)) (sym is) in
    omega (arith, cost_is)

value_light : (d : Dictionaries) (rs pre : List Tree) (at id : ℕ) (line : Option TypeLine) (v : Value) → SameBelow pre rs at → IsOf (Within d at) id line v → total rs (value_reaches (is_object_line line) id v) ≤ tree_units (tree_of pre v)
unfolding total tree_at
value_light d rs pre at id None v same h = absurd h
value_light d rs pre at id (Some lines.Unit) v same h = omega arith
value_light d rs pre at id (Some lines.Bool) v same h = omega arith
value_light d rs pre at id (Some lines.Int) v same h = omega arith
value_light d rs pre at id (Some lines.Cell) v same h = omega arith
value_light d rs pre at id (Some (lines.Addr a)) v same h = omega arith
value_light d rs pre at id (Some lines.Text) v same h = reference_light rs pre at id h.0 lines.Text v same h.1.0 h.2 refl refl
value_light d rs pre at id (Some (lines.Pair i j)) v same h = reference_light rs pre at id h.0 (lines.Pair i j) v same h.1.0 h.2 refl refl
value_light d rs pre at id (Some (lines.Sum i j)) v same h = reference_light rs pre at id h.0 (lines.Sum i j) v same h.1.0 h.2 refl refl
value_light d rs pre at id (Some (lines.List i)) v same h = reference_light rs pre at id h.0 (lines.List i) v same h.1.0 h.2 refl refl
value_light d rs pre at id (Some (lines.Fun i)) v same h = reference_light rs pre at id h.0 (lines.Fun i) v same h.1.0 h.2 refl refl

values_light : (d : Dictionaries) (rs pre : List Tree) (ps : List Reached) (at : ℕ) (ids : List ℕ) (vs : List Value) → SameBelow pre rs at → AreOf d (Within d at) ids vs → length (sent_values d ps ids vs) + total rs (values_reach d ids vs) ≤ fields_units (trees_of pre vs)
unfolding AreOf sent_values values_reach total tree_units
values_light d rs pre ps at [] [] same h = omega arith
values_light d rs pre ps at [] (v ∷ vs) same h = absurd h
values_light d rs pre ps at (id ∷ ids) [] same h = absurd h
values_light d rs pre ps at (id ∷ ids) (v ∷ vs) same h =
    let line = slice_get d.types id in
    omega (arith, total_append rs (value_reaches (is_object_line line) id v) (values_reach d ids vs), value_light d rs pre at id line v same h.0, values_light d rs pre ps at ids vs same h.1)

first_light : (pre : List Tree) (first vs : List Value) → length first + fields_units (trees_of pre vs) ≤ fields_units (trees_of pre (first ++ vs))
unfolding fields_units
first_light pre [] vs = omega arith
first_light pre (v ∷ first) vs = omega (arith, first_light pre first vs)

opened_light : (d : Dictionaries) (rs pre : List Tree) (ps : List Reached) (at : ℕ) (p : Opening) (o : Object) → SameBelow pre rs at → Closes d (Within d at) p o → units_of (sent_opened d ps (Some p) o) + total rs (opened_reaches d (Some p) o) ≤ tree_units (object_tree pre o)
unfolding total tree_units
opened_light d rs pre ps at (Whole bytes) o same h =
    subst (λ (x : Object). units_of x + total rs [] ≤ tree_units (object_tree pre x)) (sym h.0) (omega arith)
opened_light d rs pre ps at (Parts first others) o same h =
    subst (λ (x : Object). units_of (ArrayOf (first ++ sent_values d ps others (fields_behind first x))) + total rs (values_reach d others (fields_behind first x)) ≤ tree_units (object_tree pre x)) (sym h.1)
    (
    let behind : drop (length first) (first ++ h.0) ≡ h.0 = drop_at first h.0 (length first) refl in
    subst (λ (vs : List Value). (length (first ++ sent_values d ps others vs) + 1) + total rs (values_reach d others vs) ≤ 1 + fields_units (trees_of pre (first ++ h.0))) (sym behind)
    (omega (arith, length-append first (sent_values d ps others h.0), values_light d rs pre ps at others h.0 same h.2, first_light pre first h.0))
    )

object_light : (d : Dictionaries) (os : List Object) (ps : List Reached) (q : Reached) (m : Option Object) → slice_get os q.at ≡ m → IsFit d os q m → units_of (sent_object d ps q.id m) + total (grown [] os) (object_reaches d q.id m) ≤ cost (grown [] os) q
unfolding cost tree_at
object_light d os ps q None is fit = absurd fit
object_light d os ps q (Some o) is fit =
    let rs = grown [] os in
    let pre = grown [] (take q.at os) in
    let same : SameBelow pre rs q.at = λ j lt. older_tree os q.at j o is lt in
    let there : tree_units (unwrap_or (slice_get rs q.at) Leaf) ≡ tree_units (object_tree pre o) = ap (λ (x : Option Tree). tree_units (unwrap_or x Leaf)) (grown_at [] os q.at q.at o (omega arith) is) in
    subst (λ (x : Option Opening). units_of (sent_opened d ps x o) + total rs (opened_reaches d x o) ≤ tree_units (unwrap_or (slice_get rs q.at) Leaf)) (sym fit.1)
    (omega (arith, there, opened_light d rs pre ps q.at fit.0 o same fit.2))

each_light : (d : Dictionaries) (os : List Object) (ps qs : List Reached) → AreFit d os qs → units_in (map (sent d os ps) qs) + total (grown [] os) (flat_map (reaches d os) qs) ≤ total (grown [] os) qs
unfolding total
each_light d os ps [] fit = omega arith
each_light d os ps (q ∷ qs) fit =
    omega (arith, total_append (grown [] os) (reaches d os q) (flat_map (reaches d os) qs), object_light d os ps q (slice_get os q.at) refl fit.0, each_light d os ps qs fit.1)

units_append : (f : Reached → Object) (a b : List Reached) → units_in (map f (a ++ b)) ≡ units_in (map f a) + units_in (map f b)
units_append f [] b = omega arith
units_append f (q ∷ a) b = omega (arith, units_append f a b)

-- ---- the whole

marked_light : (d : Dictionaries) (os : List Object) (ps : List Reached) (at : ℕ) (w : List Reached) → AreFit d os (marked d os at w) → units_in (map (sent d os ps) (marked d os at w)) ≤ below (grown [] os) at w
unfolding marked
marked_light d os ps zero w fit = omega arith
marked_light d os ps (suc at) w fit =
    let rs = grown [] os in
    let ids = wanted_ids w at (length d.types) in
    let reached = flat_map (reaches d os) ids in
    let front = marked d os at (w ++ reached) in
    omega (
      arith,
      units_append (sent d os ps) front ids,
      marked_light d os ps at (w ++ reached) (all_left _ front ids fit),
      below_append rs at w reached,
      below_total rs at reached,
      each_light d os ps ids (all_right _ front ids fit),
      wanted_paid rs w at (length d.types),
      here_below rs at (length d.types) w,
    )

thread_light : (d : Dictionaries) (w : World) (os : List Object) (t : Sending) → IsSendable d w os t → units_in (map (sent d os (sent_from d os t)) (sent_from d os t)) ≤ tree_units (thread_tree os t).code + tree_units (thread_tree os t).argument
unfolding below cost tree_at
thread_light d w os t h =
    let rs = grown [] os in
    let line = slice_get d.types t.argument_id in
    let first = value_reaches (is_object_line line) t.argument_id t.argument in
    omega (
      arith,
      marked_light d os (sent_from d os t) (length os) (t.code ∷ first) h.fit,
      pick_most (ltb t.code.at (length os)) (tree_units (unwrap_or (slice_get rs t.code.at) Leaf)),
      below_total rs (length os) first,
      value_light d rs rs (length os) t.argument_id line t.argument (λ j lt. refl) h.argument,
    )

pub arrives_light : ArrivesLight
arrives_light d w seal os t is eight h =
    let m = message_of d os (sent_from d os t) t in
    (m, message_again d w seal m is.labels.few eight (packs d w os t is h).0, thread_light d w os t h)
