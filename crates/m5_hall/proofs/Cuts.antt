-- Splitting a pass, joining two, and the hall's first and last state.
use Rattle.std.proofs.Common.{◌≡◌, inl, inr, ⊎_elim, ℕ, zero, suc, ◌+◌, ◌-◌, ◌≤◌, ◌<◌, ◌==◌, eqb, Bool, true, false, List, [], ◌∷◌, ◌++◌, length, set, Option, Some, refl, sym, ap, ◌∙◌, subst, arith, length-set, length-append, ne_eqb}
use Rattle.std.specs.List.{All, sum_by}
use Rattle.std.proofs.lemmas.List.Elements.{All-weaker, All-append, All-nil, All-cons}
use Rattle.std.proofs.lemmas.List.Sums.{sum_by-append, sum_by_push}
use mathlib.Core.Logic.{dite}
use mathlib.Core.Option.{none, some, some-injective, some-ne-none}
use mathlib.Core.List.{IsPrefix}
use native.Mathlib.Decide.{ℕ_discrete}
use lib.ListN.{get_elem?}
use Rattle.atomic_table.specs.Table.{State, Splits, Joins}
use Rattle.atomic_table.proofs.Lists.{at_snoc, at_longer, set_else}
use Rattle.m5_hall.specs.declared.views.View.{View}
use Rattle.m5_hall.specs.declared.views.Stage.TheVariants.{Resting}
use Rattle.m5_hall.specs.History.{entries, made_by, times}
use Rattle.m5_hall.specs.Rule.{HasTicket, tickets, StageFits, Fits, IsHome, IsOut, HallRule, first_view}
use Rattle.m5_hall.specs.Steps.{split_left, split_right, joined, spent}
use Rattle.m5_hall.proofs.Sums.{sum_changes, two_below, sum_at_most}
use Rattle.m5_hall.proofs.Logs.{none_made, none_here, one_if}
use Rattle.m5_hall.proofs.OneView.{apart_stages, no_ticket, each_after, differ_after}
use Rattle.m5_hall.proofs.Moves.{out_after}

module _ {V : Type 0} where
  -- what holds of all views and of a new one
  each_new : (P : V → Type 0) (vs : List V) (w : V) → ((j : ℕ) (u : V) → get_elem? vs j ≡ some u → P u) → P w → (j : ℕ) (u : V) → get_elem? (vs ++ w ∷ []) j ≡ some u → P u
  each_new P vs w all mine j u e = ⊎_elim (all j u) (λ same. subst P same mine) (at_snoc vs w u j e)

  -- a new view has no ticket
  differ_new : (Has : ℕ → V → Type 0) (vs : List V) (w : V)
      → ((t i j : ℕ) (a b : V) → get_elem? vs i ≡ some a → get_elem? vs j ≡ some b → Has t a → Has t b → i ≡ j)
      → ((t : ℕ) → Has t w → ⊥)
      → (t i j : ℕ) (a b : V) → get_elem? (vs ++ w ∷ []) i ≡ some a → get_elem? (vs ++ w ∷ []) j ≡ some b → Has t a → Has t b → i ≡ j
  differ_new Has vs w old new t i j a b ea eb ha hb = ⊎_elim
      (λ ia. ⊎_elim
      (λ jb. old t i j a b ia jb ha hb)
      (λ (q : w ≡ b). absurd (new t (subst (Has t) (sym q) hb)))
      (at_snoc vs w b j eb))
      (λ (p : w ≡ a). absurd (new t (subst (Has t) (sym p) ha)))
      (at_snoc vs w a i ea)

module _ {T E O : Type 0} (history : T → List E) (origin : T → O) (first : O) where
  abbrev S : Type 0
  S = State (Option T) (View E O)

  abbrev Rule : S → Type 0
  Rule = HallRule history origin first

  -- the number of the next pass is in no list
  abbrev own_of : ℕ → View E O → ℕ
  own_of n u = times n u.own

  fresh : (s : S) (r : Rule s) → sum_by (own_of (length s.views)) s.views ≡ 0
  fresh s r =
      let none = sum_at_most (own_of (length s.views)) 0 s.views (λ i v e.
      let f = r.each_pass i v e in
      let z : times (length s.views) v.own ≡ 0 = none_here (length s.views) v.own (All-weaker (λ (x : ℕ × List E). (made_by x.0 r.log ≡ x.1) × (x.0 < length s.views)) (λ (x : ℕ × List E). x.0 < length s.views) (λ x p. p.1) v.own f.own_is) in
      omega arith) in
      omega arith

  -- one new number, and the others
  one_new : (s : S) (r : Rule s) (k n : ℕ) → n ≡ length s.views → sum_by (own_of k) s.views + times {E = E} k ((n, []) ∷ []) ≤ 1
  one_new s r k n is = dite (ℕ_discrete n k)
      (λ (same : n ≡ k).
      let z : sum_by (own_of k) s.views ≡ 0 = subst (λ j. sum_by (own_of j) s.views ≡ 0) (sym is ∙ same) (fresh s r) in
      let a = one_at_most (eqb n k) in
      omega arith)
      (λ (apart : n ≡ k → ⊥).
      let z : one_if (eqb n k) ≡ 0 = ap one_if (ne_eqb n k apart) in
      let b = r.numbers_differ k in
      omega arith)
    where
      one_at_most : (b : Bool) → one_if b ≤ 1
      one_at_most true = omega arith
      one_at_most false = omega arith

  pub splits : (id : ℕ) (v : View E O) → v.stage ≡ Resting → 0 < v.splits_left → Splits Rule id v (split_left v) (split_right v)
  splits id v rests some_left s r at =
      let left = split_left v in
      let right = split_right v in
      let n : ℕ = length s.views in
      let mine = r.each_pass id v at in
      let left_are : n + v.splits_left ≡ 1048576 = mine.splits_are some_left in
      let number : 1048576 - v.splits_left ≡ n = omega arith in
      let wide : length (set s.views id left ++ right ∷ []) ≡ n + 1 = length-append (set s.views id left) (right ∷ []) ∙ ap (λ k. k + 1) (length-set s.views id left) in record {
        drawn = r.drawn;
        served = r.served;
        log = r.log;
        words_are = r.words_are;
        tickets_out = let a = sum_changes (λ (u : View E O). tickets u.stage) s.views id v left at in let b = sum_by_push (λ (u : View E O). tickets u.stage) (set s.views id left) right in let c = r.tickets_out in omega arith;
        tickets_differ = differ_new (λ t (u : View E O). HasTicket t u.stage) (set s.views id left) right
            (differ_after (λ t (u : View E O). HasTicket t u.stage) s.views id left r.tickets_differ (λ t j b other e has hb. absurd (no_ticket t v.stage rests has)))
            (λ t has. has);
        slot_is = ⊎_elim
            (λ (h : IsHome history origin first r.log s). inl h)
            (λ (o : IsOut s). inr (out_longer record { words = s.words; homes = s.homes; views = set s.views id left } right (out_after history origin first s id v left at (λ t. apart_stages t v.stage rests) s.words o)))
            r.slot_is;
        each_pass = subst (λ m. (j : ℕ) (u : View E O) → get_elem? (set s.views id left ++ right ∷ []) j ≡ some u → Fits first r.served r.drawn m (s.homes ≡ none ∷ []) r.log u) (sym wide)
            (each_new (Fits first r.served r.drawn (n + 1) (s.homes ≡ none ∷ []) r.log) (set s.views id left) right
            (each_after (Fits first r.served r.drawn (n + 1) (s.homes ≡ none ∷ []) r.log) s.views id left
            record {
              stage_is = mine.stage_is;
              seen_is = mine.seen_is;
              own_is = more_passes n r.log v.own mine.own_is;
              ticket_owns = mine.ticket_owns;
              few_enters = mine.few_enters;
              splits_are = λ more. omega arith;
              origin_is = mine.origin_is;
            }
            (λ j u other e. let f = r.each_pass j u e in record {
              stage_is = f.stage_is;
              seen_is = f.seen_is;
              own_is = more_passes n r.log u.own f.own_is;
              ticket_owns = f.ticket_owns;
              few_enters = f.few_enters;
              splits_are = λ more.
                  let theirs : n + u.splits_left ≡ 1048576 = f.splits_are more in
                  let both = two_below (λ (z : View E O). z.splits_left) s.views j id u v other e at in
                  let c = r.splits_cover in
                  absurd (omega arith);
              origin_is = f.origin_is;
            }))
            record {
              stage_is = tt;
              seen_is = mine.seen_is;
              own_is = All-cons (λ (x : ℕ × List E). (made_by x.0 r.log ≡ x.1) × (x.0 < n + 1)) (1048576 - v.splits_left, []) [] (ap (λ k. made_by k r.log) number ∙ none_made n r.log r.numbers_made, omega arith) (All-nil (λ (x : ℕ × List E). (made_by x.0 r.log ≡ x.1) × (x.0 < n + 1)));
              ticket_owns = omega arith;
              few_enters = omega arith;
              splits_are = λ more. absurd (omega arith);
              origin_is = mine.origin_is;
            });
        numbers_made = subst (λ m. All (λ (x : ℕ × E). x.0 < m) r.log) (sym wide) (All-weaker (λ (x : ℕ × E). x.0 < n) (λ (x : ℕ × E). x.0 < n + 1) (λ x p. omega arith) r.log r.numbers_made);
        numbers_differ = λ k. let a = sum_changes (own_of k) s.views id v left at in let b = sum_by_push (own_of k) (set s.views id left) right in let c = one_new s r k (1048576 - v.splits_left) number in omega arith;
        enters_cover = let a = sum_changes (λ (u : View E O). u.enters) s.views id v left at in let b = sum_by_push (λ (u : View E O). u.enters) (set s.views id left) right in let c = r.enters_cover in omega arith;
        splits_cover = let a = sum_changes (λ (u : View E O). u.splits_left) s.views id v left at in let b = sum_by_push (λ (u : View E O). u.splits_left) (set s.views id left) right in let c = r.splits_cover in omega arith;
        entries_served = r.entries_served;
      }
    where
      more_passes : (n : ℕ) (log : List (ℕ × E)) (own : List (ℕ × List E)) → All (λ x. (made_by x.0 log ≡ x.1) × (x.0 < n)) own → All (λ x. (made_by x.0 log ≡ x.1) × (x.0 < n + 1)) own
      more_passes n log own = All-weaker (λ (x : ℕ × List E). (made_by x.0 log ≡ x.1) × (x.0 < n)) (λ (x : ℕ × List E). (made_by x.0 log ≡ x.1) × (x.0 < n + 1)) (λ x p. let q = p.1 in (p.0, omega arith)) own

      out_longer : (z : S) (w : View E O) → IsOut z → IsOut {T = T} record { words = z.words; homes = z.homes; views = z.views ++ w ∷ [] }
      out_longer z w out = (out.0, (out.1.0, out.1.1, out.1.2, at_longer z.views (w ∷ []) out.1.0 out.1.1 out.1.3, out.1.4))

  pub joins : (id : ℕ) (v : View E O) (other : ℕ) (w : View E O) → v.stage ≡ Resting → w.stage ≡ Resting → Joins Rule id v other w (joined v w) spent
  joins id v other w v_rests w_rests s r at apart there =
      let both = joined v w in
      let vs : List (View E O) = set s.views id both in
      let was : get_elem? s.views other ≡ some w = sym (set_else s.views id other both apart) ∙ there in
      let mine = r.each_pass id v at in
      let theirs = r.each_pass other w was in
      let wide : length (set vs other spent) ≡ length s.views = length-set vs other spent ∙ length-set s.views id both in
      let own : ℕ × List E → Type 0 = λ x. (made_by x.0 r.log ≡ x.1) × (x.0 < length s.views) in
      let none_theirs : tickets w.stage ≡ 0 = ap tickets w_rests in record {
        drawn = r.drawn;
        served = r.served;
        log = r.log;
        words_are = r.words_are;
        tickets_out = let a = sum_changes (λ (u : View E O). tickets u.stage) s.views id v both at in let b = sum_changes (λ (u : View E O). tickets u.stage) vs other w spent there in let c = r.tickets_out in omega arith;
        tickets_differ = differ_after (λ t (u : View E O). HasTicket t u.stage) vs other spent
            (differ_after (λ t (u : View E O). HasTicket t u.stage) s.views id both r.tickets_differ (λ t j b j_other e has hb. absurd (no_ticket t v.stage v_rests has)))
            (λ t j b j_other e has hb. has);
        slot_is = ⊎_elim
            (λ (h : IsHome history origin first r.log s). inl h)
            (λ (o : IsOut s). inr (out_after history origin first record { words = s.words; homes = s.homes; views = vs } other w spent there (λ t. apart_stages t w.stage w_rests) s.words
            (out_after history origin first s id v both at (λ t. apart_stages t v.stage v_rests) s.words o)))
            r.slot_is;
        each_pass = subst (λ m. (j : ℕ) (u : View E O) → get_elem? (set vs other spent) j ≡ some u → Fits first r.served r.drawn m (s.homes ≡ none ∷ []) r.log u) (sym wide)
            (each_after (Fits first r.served r.drawn (length s.views) (s.homes ≡ none ∷ []) r.log) vs other spent
            record {
              stage_is = tt;
              seen_is = All-nil (λ l. IsPrefix l (entries r.log));
              own_is = All-nil own;
              ticket_owns = omega arith;
              few_enters = omega arith;
              splits_are = λ more. absurd (omega arith);
              origin_is = λ o e. absurd (cc);
            }
            (λ j u _ e. each_after (Fits first r.served r.drawn (length s.views) (s.homes ≡ none ∷ []) r.log) s.views id both
            record {
              stage_is = subst (StageFits r.served r.drawn (s.homes ≡ none ∷ []) (both.seen ≡ entries r.log ∷ [])) (sym v_rests) tt;
              seen_is = All-append (λ l. IsPrefix l (entries r.log)) v.seen w.seen mine.seen_is theirs.seen_is;
              own_is = All-append own v.own w.own mine.own_is theirs.own_is;
              ticket_owns = let none_mine : tickets v.stage ≡ 0 = ap tickets v_rests in omega arith;
              few_enters = mine.few_enters;
              splits_are = mine.splits_are;
              origin_is = mine.origin_is;
            }
            (λ i z _ d. r.each_pass i z d) j u e));
        numbers_made = subst (λ m. All (λ (x : ℕ × E). x.0 < m) r.log) (sym wide) r.numbers_made;
        numbers_differ = λ k.
            let a = sum_changes (own_of k) s.views id v both at in
            let b = sum_changes (own_of k) vs other w spent there in
            let c = sum_by-append (λ (x : ℕ × List E). one_if (x.0 == k)) v.own w.own in
            let d = r.numbers_differ k in
            omega arith;
        enters_cover = let few = theirs.few_enters in let a = sum_changes (λ (u : View E O). u.enters) s.views id v both at in let b = sum_changes (λ (u : View E O). u.enters) vs other w spent there in let c = r.enters_cover in omega arith;
        splits_cover = let a = sum_changes (λ (u : View E O). u.splits_left) s.views id v both at in let b = sum_changes (λ (u : View E O). u.splits_left) vs other w spent there in let c = r.splits_cover in omega arith;
        entries_served = r.entries_served;
      }

  -- the hall as it is made, of a value with an empty history
  pub opens : (x : T) → history x ≡ [] → origin x ≡ first → Rule record { words = 0 ∷ 0 ∷ []; homes = some (Some x) ∷ []; views = first_view first ∷ [] }
  opens x empty begins = record {
    drawn = 0;
    served = 0;
    log = [];
    words_are = refl;
    tickets_out = refl;
    tickets_differ = λ t i j a b ea eb ha hb. absurd (no_ticket t a.stage (only_rests i a ea) ha);
    slot_is = inl (x, refl, empty, begins);
    each_pass = λ i v e. subst (Fits first 0 0 1 (some (Some x) ∷ [] ≡ none ∷ []) []) (only i v e) record {
      stage_is = tt;
      seen_is = All-cons (λ (l : List E). IsPrefix l []) [] [] ([], refl) (All-nil (λ (l : List E). IsPrefix l []));
      own_is = All-cons (λ (z : ℕ × List E). (made_by z.0 [] ≡ z.1) × (z.0 < 1)) (0, []) [] (refl, omega arith) (All-nil (λ (z : ℕ × List E). (made_by z.0 [] ≡ z.1) × (z.0 < 1)));
      ticket_owns = omega arith;
      few_enters = omega arith;
      splits_are = λ _. refl;
      origin_is = λ o e. some_same e;
    };
    numbers_made = All-nil (λ (z : ℕ × E). z.0 < 1);
    numbers_differ = λ k. once k;
    enters_cover = omega arith;
    splits_cover = omega arith;
    entries_served = omega arith;
  }
    where
      only : (i : ℕ) (v : View E O) → get_elem? (first_view {E = E} first ∷ []) i ≡ some v → first_view first ≡ v
      only zero v e = some-injective (first_view first) v e
      only (suc i) v e = absurd (some-ne-none v (sym e))

      only_rests : (i : ℕ) (v : View E O) → get_elem? (first_view {E = E} first ∷ []) i ≡ some v → v.stage ≡ Resting
      only_rests i v e = ap (λ (u : View E O). u.stage) (sym (only i v e))

      some_same : {o : O} → Some first ≡ Some o → o ≡ first
      some_same e = cc

      once : (k : ℕ) → sum_by (own_of k) (first_view first ∷ []) ≤ 1
      once k = let h = one_at_most (eqb 0 k) in omega arith
        where
          one_at_most : (b : Bool) → one_if b ≤ 1
          one_at_most true = omega arith
          one_at_most false = omega arith
