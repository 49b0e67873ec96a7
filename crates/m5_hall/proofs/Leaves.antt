-- What a turn is told, and how it ends: leaving keeps the hall's rule.
use Rattle.std.proofs.Common.{◌≡◌, ◌≢◌, inl, ℕ, ◌+◌, ◌%◌, ◌^◌, ◌≤◌, ◌<◌, List, [], ◌∷◌, ◌++◌, length, get_or, set, drop, Option, Some, None, refl, sym, ap, ◌∙◌, subst, arith, append-nil, length-set, length-append}
use Rattle.std.specs.List.{All}
use Rattle.std.proofs.lemmas.List.Elements.{All-weaker, All-append, All-nil, All-cons, All-head, All-tail}
use Rattle.std.proofs.Math.Seq.{drop-append_seam}
use mathlib.Core.Option.{none, some, some-injective, some-ne-none}
use mathlib.Core.List.{IsPrefix}
use lib.ListN.{get_elem?}
use Rattle.atomic_table.specs.Table.{State, Me, step, gives, stepped, put_back, rest as rest_of, Allows}
use Rattle.m5_hall.specs.declared.views.View.{View}
use Rattle.m5_hall.specs.declared.views.Stage.TheVariants.{Resting, Waiting, Serving}
use Rattle.m5_hall.specs.History.{entries, made_by, times}
use Rattle.m5_hall.specs.Rule.{HasTicket, tickets, StageFits, Fits, HallRule}
use Rattle.m5_hall.specs.Steps.{first_of, with_more, resting, Serves, LooksAt, MayLeave, leaving, LeftOne, LeftNone}
use Rattle.m5_hall.proofs.Sums.{sum_changes, term_below, two_below}
use Rattle.m5_hall.proofs.Logs.{named, length-named, All-named, first_there, prefix_more, entries_more, made_more, made_same, once_there}
use Rattle.m5_hall.proofs.OneView.{stage_next, each_after, differ_after, small_mod}
use Rattle.m5_hall.proofs.Moves.{drawn_below}

module _ {T E O : Type 0} (history : T → List E) (origin : T → O) where
  abbrev Sat : Type 0
  Sat = Me (Option T) (View E O)

  -- what a look tells a pass whose ticket it finds
  pub serves_then : (t found : ℕ) (m' was m : Sat) → was ≡ m → m.0.stage ≡ Waiting t → found ≡ t → LooksAt history origin was found m' was.0.stage → Serves history origin t m m'
  serves_then t found m' was m same waits hit looked =
      let now = subst (λ (z : Sat). LooksAt history origin z found m' z.0.stage) same looked in
      let told = subst (LooksAt history origin m found m') waits now in
      told.0 hit

  -- the value that was taken is the one that the look told of
  pub served_value : (t : ℕ) (m m' : Sat) (y : T) → m'.1 ≡ (0, Some y) ∷ [] → Serves history origin t m m' → All (λ seen. IsPrefix seen (history y)) m.0.seen
  served_value t m m' y has s =
      let same : s.0 ≡ y = some_in (sym (ap (λ (z : Sat). z.1) s.1) ∙ has) in
      subst (λ (z : T). All (λ seen. IsPrefix seen (history z)) m.0.seen) same s.2
    where
      some_in : {x z : T} {cs ds : List (ℕ × Option T)} {k : ℕ} → (k, Some x) ∷ cs ≡ (k, Some z) ∷ ds → x ≡ z
      some_in {x} {z} e = ap (λ (l : List (ℕ × Option T)). head_or x l) e
        where
          head_or : T → List (ℕ × Option T) → T
          head_or d [] = d
          head_or d (c ∷ cs) = value_or d c.1
            where
              value_or : T → Option T → T
              value_or e None = e
              value_or e (Some v) = v

  -- a pass in its turn may leave
  pub may_leave : (v : View E O) (h news : List E) (y : T) (m : Sat) (n : ℕ) → m ≡ (v, (0, Some y) ∷ []) → v.stage ≡ Serving n → v.seen ≡ h ∷ [] → 0 < length v.own → history y ≡ h ++ news → v.origin ≡ Some (origin y) → MayLeave history origin m y news
  may_leave v h news y m n is serves saw owns grown begins = subst (λ (z : Sat). MayLeave history origin z y news) (sym is)
      record { ticket = n; before = h; serves = serves; saw = saw; owns = owns; holds = refl; grown = grown; origin_is = begins }

module _ {T E O : Type 0} (history : T → List E) (origin : T → O) (first : O) where
  abbrev S : Type 0
  S = State (Option T) (View E O)

  abbrev M : Type 0
  M = Me (Option T) (View E O)

  abbrev Homes : Type 0
  Homes = List (mathlib.Core.Option.Option (Option T))

  abbrev back : T → Homes
  back y = some (Some y) ∷ []

  -- the slot is out
  abbrev away : Homes
  away = none ∷ []

  abbrev Rule : S → Type 0
  Rule = HallRule history origin first

  abbrev fits : S → ℕ → ℕ → ℕ → Type 0 → List (ℕ × E) → View E O → Type 0
  fits s served drawn n out log v = Fits first served drawn n out log v

  -- the entries in which this list differs from a longer history are under another number
  own_stays : (passes n : ℕ) (log : List (ℕ × E)) (news : List E) (own : List (ℕ × List E)) → times n own ≡ 0 → All (λ x. (made_by x.0 log ≡ x.1) × (x.0 < passes)) own → All (λ x. (made_by x.0 (log ++ named n news) ≡ x.1) × (x.0 < passes)) own
  own_stays passes n log news own none_there all k d inside =
      let old = all k d inside in
      let x = get_or own k d in
      (made_same x.0 n log news (λ e. let one = once_there n own k d inside (sym e) in absurd (omega arith)) ∙ old.0, old.1)

  own_grows : (passes n : ℕ) (log : List (ℕ × E)) (news es : List E) (rest : List (ℕ × List E)) → times n ((n, es) ∷ rest) ≤ 1 → All (λ x. (made_by x.0 log ≡ x.1) × (x.0 < passes)) ((n, es) ∷ rest)
      → All (λ x. (made_by x.0 (log ++ named n news) ≡ x.1) × (x.0 < passes)) ((n, es ++ news) ∷ rest)
  own_grows passes n log news es rest once all =
      let P : List (ℕ × E) → ℕ × List E → Type 0 = λ l x. (made_by x.0 l ≡ x.1) × (x.0 < passes) in
      let head : P log (n, es) = All-head (P log) (n, es) rest all in
      All-cons (P (log ++ named n news)) (n, es ++ news) rest
      (made_more n log news ∙ ap (λ l. l ++ news) head.0, head.1)
      (own_stays passes n log news rest (let one = first_there n es rest in omega arith) (All-tail (P log) (n, es) rest all))

  left_rule : (s : S) (r : Rule s) (id : ℕ) (v : View E O) (t n : ℕ) (h es news : List E) (rest : List (ℕ × List E)) (y : T) → get_elem? s.views id ≡ some v → v.stage ≡ Serving t → v.seen ≡ h ∷ [] → v.own ≡ (n, es) ∷ rest
      → history y ≡ h ++ news → length news ≤ 1 → v.origin ≡ Some (origin y)
      → Rule record { words = r.drawn ∷ (r.served + 1) ∷ []; homes = some (Some y) ∷ []; views = set s.views id (resting (history y) news v) }
  left_rule s r id v t n h es news rest y at serves saw owns grown few_news begins =
      let w = resting (history y) news v in
      let log' : List (ℕ × E) = r.log ++ named n news in
      let counted = sum_changes (λ (u : View E O). tickets u.stage) s.views id v w at in
      let one : tickets v.stage ≡ 1 = ap tickets serves in
      let out = r.tickets_out in
      let wide = length-set s.views id w in
      let mine = r.each_pass id v at in
      let stage : (t ≡ r.served) × (t < r.drawn) × (s.homes ≡ none ∷ []) × (v.seen ≡ entries r.log ∷ []) = subst (StageFits r.served r.drawn (s.homes ≡ none ∷ []) (v.seen ≡ entries r.log ∷ [])) serves mine.stage_is in
      let whole : h ≡ entries r.log = ap first_of (sym saw ∙ stage.3) in
      let new_whole : history y ≡ entries log' = grown ∙ (ap (λ l. l ++ news) whole ∙ sym (entries_more r.log n news)) in
      let owned : with_more v.own news ≡ (n, es ++ news) ∷ rest = ap (λ o. with_more o news) owns in
      let own_here : All (λ x. (made_by x.0 r.log ≡ x.1) × (x.0 < length s.views)) ((n, es) ∷ rest) = subst (All (λ x. (made_by x.0 r.log ≡ x.1) × (x.0 < length s.views))) owns mine.own_is in
      let number_made : n < length s.views = (All-head (λ (x : ℕ × List E). (made_by x.0 r.log ≡ x.1) × (x.0 < length s.views)) (n, es) rest own_here).1 in
      let mine_once : (k : ℕ) → times k ((n, es) ∷ rest) ≤ 1 = λ k. subst (λ o. times k o ≤ 1) owns (let a = term_below (λ (u : View E O). times k u.own) s.views id v at in let b = r.numbers_differ k in omega arith) in
      let same_times : (k : ℕ) → times k w.own ≡ times k v.own = λ k. ap (times k) owned ∙ ap (times k) (sym owns) in
      let has_served : HasTicket r.served v.stage = subst (HasTicket r.served) (sym serves) stage.0 in record {
        drawn = r.drawn;
        served = r.served + 1;
        log = log';
        words_are = refl;
        tickets_out = omega arith;
        tickets_differ = differ_after (λ k (u : View E O). HasTicket k u.stage) s.views id w r.tickets_differ (λ k j b other e has hb. has);
        slot_is = inl (y, refl, new_whole, mine.origin_is (origin y) begins);
        each_pass = subst (λ m. (j : ℕ) (u : View E O) → get_elem? (set s.views id w) j ≡ some u → Fits first (r.served + 1) r.drawn m (back y ≡ none ∷ []) log' u) (sym wide)
            (each_after (Fits first (r.served + 1) r.drawn (length s.views) (back y ≡ none ∷ []) log') s.views id w
            record {
              stage_is = tt;
              seen_is = All-cons (λ l. IsPrefix l (entries log')) (history y) [] ([], append-nil (history y) ∙ new_whole) (All-nil (λ l. IsPrefix l (entries log')));
              own_is = subst (All (λ x. (made_by x.0 log' ≡ x.1) × (x.0 < length s.views))) (sym owned) (own_grows (length s.views) n r.log news es rest (mine_once n) own_here);
              ticket_owns = omega arith;
              few_enters = mine.few_enters;
              splits_are = mine.splits_are;
              origin_is = mine.origin_is;
            }
            (λ j u other e. let f = r.each_pass j u e in record {
              stage_is = stage_next r.served r.drawn (s.homes ≡ none ∷ []) (back y ≡ none ∷ []) (u.seen ≡ entries r.log ∷ []) (u.seen ≡ entries log' ∷ []) u.stage (λ has. other (r.tickets_differ r.served j id u v e at has has_served)) f.stage_is;
              seen_is = All-weaker (λ l. IsPrefix l (entries r.log)) (λ l. IsPrefix l (entries log')) (λ l p. subst (IsPrefix l) (sym (entries_more r.log n news)) (prefix_more l (entries r.log) news p)) u.seen f.seen_is;
              own_is = own_stays (length s.views) n r.log news u.own (theirs_none j u other e) f.own_is;
              ticket_owns = f.ticket_owns;
              few_enters = f.few_enters;
              splits_are = f.splits_are;
              origin_is = f.origin_is;
            }));
        numbers_made = subst (λ m. All (λ (x : ℕ × E). x.0 < m) log') (sym wide) (All-append (λ (x : ℕ × E). x.0 < length s.views) r.log (named n news) r.numbers_made (All-named (length s.views) n news number_made));
        numbers_differ = λ k. let d = r.numbers_differ k in let c = sum_changes (λ (u : View E O). times k u.own) s.views id v w at in let e = same_times k in omega arith;
        enters_cover = let c = sum_changes (λ (u : View E O). u.enters) s.views id v w at in let e = r.enters_cover in omega arith;
        splits_cover = let c = sum_changes (λ (u : View E O). u.splits_left) s.views id v w at in let e = r.splits_cover in omega arith;
        entries_served = let e = r.entries_served in let a = length-append r.log (named n news) in let b = length-named n news in omega arith;
      }
    where
      theirs_none : (j : ℕ) (u : View E O) → j ≢ id → get_elem? s.views j ≡ some u → times n u.own ≡ 0
      theirs_none j u other e =
          let both = two_below (λ (z : View E O). times n z.own) s.views j id u v other e at in
          let d = r.numbers_differ n in
          let here : times n v.own ≡ times n ((n, es) ∷ rest) = ap (times n) owns in
          let one = first_there n es rest in
          omega arith

  -- the pass that is served gives the slot back, and the next ticket is served
  left_step : (s : S) (r : Rule s) (id t n : ℕ) (m : M) (h es news : List E) (rest : List (ℕ × List E)) (y : T) (w : View E O) → get_elem? s.views id ≡ some m.0 → m.0.stage ≡ Serving t → m.0.seen ≡ h ∷ [] → m.0.own ≡ (n, es) ∷ rest
      → m.1 ≡ (0, Some y) ∷ [] → history y ≡ h ++ news → length news ≤ 1 → m.0.origin ≡ Some (origin y) → resting (history y) news m.0 ≡ w
      → Rule (stepped s 1 ((get_or s.words 1 0 + 1) % 18446744073709551616) id m.1 w gives)
  left_step s r id t n m h es news rest y w at serves saw owns holds grown few begins is =
      let below = drawn_below history origin first s r in
      let out = r.tickets_out in
      let words : set s.words 1 ((get_or s.words 1 0 + 1) % 18446744073709551616) ≡ r.drawn ∷ (r.served + 1) ∷ [] =
      ap (λ ws. set ws 1 ((get_or ws 1 0 + 1) % 18446744073709551616)) r.words_are ∙ ap (λ k. r.drawn ∷ k ∷ []) (small_mod (r.served + 1) (omega arith)) in
      let stage : (t ≡ r.served) × (t < r.drawn) × (s.homes ≡ none ∷ []) × (m.0.seen ≡ entries r.log ∷ []) = subst (StageFits r.served r.drawn (s.homes ≡ none ∷ []) (m.0.seen ≡ entries r.log ∷ [])) serves (r.each_pass id m.0 at).stage_is in
      let homes : put_back s.homes m.1 ≡ back y = (λ i. put_back (stage.2 i) (holds i)) in
      subst (λ (z : List ℕ × Homes × View E O). Rule record { words = z.0; homes = z.1; views = set s.views id z.2 }) (λ i. (sym words i, sym homes i, is i))
      (left_rule s r id m.0 t n h es news rest y at serves saw owns grown few begins)

  -- the first of the lists is the pass's own
  first_own : (own : List (ℕ × List E)) → 0 < length own → (n : ℕ) × (es : List E) × (rest : List (ℕ × List E)) × (own ≡ (n, es) ∷ rest)
  first_own [] more = absurd (omega arith)
  first_own (x ∷ xs) more = (x.0, x.1, xs, refl)

  pub leaves_one : (slots id : ℕ) (m : M) (y : T) (e : E) → MayLeave history origin m y (e ∷ []) → Allows Rule slots id m 1 (λ k. (k + 1) % 2 ^ 64) (LeftOne history origin (step slots 1 1 0 none) m)
  leaves_one slots id m y e may s r deep at small =
      let news : drop (length (first_of m.0.seen)) (history y) ≡ e ∷ [] = (λ i. drop (length (first_of (may.saw i))) (may.grown i)) ∙ drop-append_seam may.before (e ∷ []) in (
        resting (history y) (e ∷ []) m.0,
        gives,
        tt,
        (let own = first_own m.0.own may.owns in left_step s r id may.ticket own.0 m may.before own.1 (e ∷ []) own.2 y (resting (history y) (e ∷ []) m.0) at may.serves may.saw own.3 may.holds may.grown (omega arith) may.origin_is refl),
        (λ i. (resting (history y) (sym news i) m.0, rest_of (may.holds i))) ∙ (λ i. (leaving history origin m.0 (sym may.holds i), [])),
      )

  pub leaves_none : (slots id : ℕ) (m : M) (y : T) → MayLeave history origin m y [] → Allows Rule slots id m 1 (λ k. (k + 1) % 2 ^ 64) (LeftNone history origin (step slots 1 1 0 none) m)
  leaves_none slots id m y may s r deep at small =
      let seen : history y ∷ [] ≡ m.0.seen = ap (λ l. l ∷ []) (may.grown ∙ append-nil may.before) ∙ sym may.saw in (
        record m.0 { stage = Resting },
        gives,
        tt,
        (let parts = first_own m.0.own may.owns in
            let own : with_more m.0.own [] ≡ m.0.own = ap (λ o. with_more o []) parts.3 ∙ (ap (λ l. (parts.0, l) ∷ parts.2) (append-nil parts.1) ∙ sym parts.3) in
            left_step s r id may.ticket parts.0 m may.before parts.1 [] parts.2 y (record m.0 { stage = Resting }) at may.serves may.saw parts.3 may.holds may.grown (omega arith) may.origin_is (λ i. record m.0 { stage = Resting; seen = seen i; own = own i })),
        (λ i. (record m.0 { stage = Resting }, rest_of (may.holds i))),
      )
