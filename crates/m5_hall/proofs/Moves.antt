-- Drawing a ticket and looking keep the hall's rule.
use Rattle.std.proofs.Common.{◌≡◌, inl, inr, ⊎_elim, ℕ, ◌+◌, ◌%◌, ◌^◌, ◌≤◌, ◌<◌, List, [], ◌∷◌, length, get_or, set, Option, Some, refl, sym, ap, ◌∙◌, subst, arith, append-nil, length-set}
use Rattle.std.specs.List.{All}
use Rattle.std.proofs.lemmas.List.Elements.{All-nil, All-cons}
use mathlib.Core.Logic.{dite}
use mathlib.Core.Option.{none, some, some-injective, some-ne-none}
use mathlib.Core.List.{IsPrefix}
use native.Mathlib.Decide.{ℕ_discrete}
use lib.ListN.{get_elem?}
use Rattle.atomic_table.specs.Table.{State, Me, step, keeps, takes, Allows}
use Rattle.atomic_table.proofs.Lists.{set_here, set_else, set_again}
use Rattle.m5_hall.specs.declared.views.View.{View}
use Rattle.m5_hall.specs.declared.views.Stage.TheVariants.{Resting, Waiting, Serving}
use Rattle.m5_hall.specs.History.{entries, times}
use Rattle.m5_hall.specs.Rule.{HasTicket, tickets, StageFits, Fits, IsHome, IsOut, HallRule}
use Rattle.m5_hall.specs.Steps.{drawing, serving, LooksAt, Drew, Looked}
use Rattle.m5_hall.proofs.Sums.{sum_changes, sum_at_most}
use Rattle.m5_hall.proofs.OneView.{apart_stages, waits_not_served, filled, there, stage_more, not_drawn, stage_home, each_after, differ_after, same_there, small_mod}

module _ {T E O : Type 0} (history : T → List E) (origin : T → O) (first : O) where
  abbrev S : Type 0
  S = State (Option T) (View E O)

  abbrev M : Type 0
  M = Me (Option T) (View E O)

  abbrev Homes : Type 0
  Homes = List (mathlib.Core.Option.Option (Option T))

  abbrev back : T → Homes
  back y = some (Some y) ∷ []

  -- the slot is out
  abbrev away : Homes
  away = none ∷ []

  abbrev Rule : S → Type 0
  Rule = HallRule history origin first

  abbrev fits : S → ℕ → ℕ → ℕ → Type 0 → List (ℕ × E) → View E O → Type 0
  fits s served drawn n out log v = Fits first served drawn n out log v

  -- few tickets were drawn
  pub drawn_below : (s : S) (r : Rule s) → r.drawn ≤ 1152921504606846976
  drawn_below s r =
      let each = sum_at_most (λ (v : View E O). v.enters) 1099511627776 s.views (λ i v e. (r.each_pass i v e).few_enters) in
      let a = r.enters_cover in
      let b = r.splits_cover in
      omega arith

  -- a pass with a ticket that is resting now has not the slot
  pub out_after : (s : S) (id : ℕ) (v w : View E O) → get_elem? s.views id ≡ some v → ((t : ℕ) → v.stage ≡ Serving t → ⊥) → (ws : List ℕ) → IsOut s → IsOut {T = T} record { words = ws; homes = s.homes; views = set s.views id w }
  out_after s id v w at rests ws out = (
    out.0,
    (
      out.1.0,
      out.1.1,
      out.1.2,
      set_else s.views id out.1.0 w (λ same. rests out.1.2 (ap (λ (u : View E O). u.stage) (same_there s.views id v out.1.1 at (subst (λ k. get_elem? s.views k ≡ some out.1.1) same out.1.3)) ∙ out.1.4)) ∙ out.1.3,
      out.1.4,
    ),
  )

  drawn_rule : (s : S) (r : Rule s) (id : ℕ) (v : View E O) → get_elem? s.views id ≡ some v → v.stage ≡ Resting → v.enters < 1099511627776 → 0 < length v.own
      → Rule record { words = (r.drawn + 1) ∷ r.served ∷ []; homes = s.homes; views = set s.views id (drawing r.drawn v) }
  drawn_rule s r id v at rests few owns =
      let w = drawing r.drawn v in
      let counted = sum_changes (λ (u : View E O). tickets u.stage) s.views id v w at in
      let none_yet : tickets v.stage ≡ 0 = ap tickets rests in
      let out = r.tickets_out in
      let wide = length-set s.views id w in
      let mine = r.each_pass id v at in record {
        drawn = r.drawn + 1;
        served = r.served;
        log = r.log;
        words_are = refl;
        tickets_out = omega arith;
        tickets_differ = differ_after (λ t (u : View E O). HasTicket t u.stage) s.views id w r.tickets_differ
            (λ t j b other e (has : r.drawn ≡ t) hb. not_drawn r.served r.drawn (s.homes ≡ none ∷ []) (b.seen ≡ entries r.log ∷ []) b.stage (r.each_pass j b e).stage_is (subst (λ k. HasTicket k b.stage) (sym has) hb));
        slot_is = ⊎_elim (λ (h : IsHome history origin first r.log s). inl h) (λ (o : IsOut s). inr (out_after s id v w at (λ t. apart_stages t v.stage rests) ((r.drawn + 1) ∷ r.served ∷ []) o)) r.slot_is;
        each_pass = subst (λ n. (j : ℕ) (u : View E O) → get_elem? (set s.views id w) j ≡ some u → Fits first r.served (r.drawn + 1) n (s.homes ≡ none ∷ []) r.log u) (sym wide)
            (each_after (Fits first r.served (r.drawn + 1) (length s.views) (s.homes ≡ none ∷ []) r.log) s.views id w
            record {
              stage_is = (omega arith, omega arith);
              seen_is = mine.seen_is;
              own_is = mine.own_is;
              ticket_owns = omega arith;
              few_enters = omega arith;
              splits_are = mine.splits_are;
              origin_is = mine.origin_is;
            }
            (λ j u other e. let f = r.each_pass j u e in record {
              stage_is = stage_more r.served r.drawn (r.drawn + 1) (s.homes ≡ none ∷ []) (u.seen ≡ entries r.log ∷ []) u.stage (omega arith) f.stage_is;
              seen_is = f.seen_is;
              own_is = f.own_is;
              ticket_owns = f.ticket_owns;
              few_enters = f.few_enters;
              splits_are = f.splits_are;
              origin_is = f.origin_is;
            }));
        numbers_made = subst (λ n. All (λ (x : ℕ × E). x.0 < n) r.log) (sym wide) r.numbers_made;
        numbers_differ = λ n. let d = r.numbers_differ n in let c = sum_changes (λ (u : View E O). times n u.own) s.views id v w at in omega arith;
        enters_cover = let c = sum_changes (λ (u : View E O). u.enters) s.views id v w at in let e = r.enters_cover in omega arith;
        splits_cover = let c = sum_changes (λ (u : View E O). u.splits_left) s.views id v w at in let e = r.splits_cover in omega arith;
        entries_served = r.entries_served;
      }

  pub draws : (slots id : ℕ) (m : M) → m.0.stage ≡ Resting → m.0.enters < 1099511627776 → 0 < length m.0.own → Allows Rule slots id m 0 (λ n. (n + 1) % 2 ^ 64) (Drew history origin (step slots 0 1 0 none) m)
  draws slots id m rests few owns s r deep at small =
      let below = drawn_below s r in
      let found : get_or s.words 0 0 ≡ r.drawn = ap (λ ws. get_or ws 0 0) r.words_are in
      let words : set s.words 0 ((get_or s.words 0 0 + 1) % 18446744073709551616) ≡ (r.drawn + 1) ∷ r.served ∷ [] =
      ap (λ ws. set ws 0 ((get_or ws 0 0 + 1) % 18446744073709551616)) r.words_are ∙ ap (λ n. n ∷ r.served ∷ []) (small_mod (r.drawn + 1) (omega arith)) in (
        drawing r.drawn m.0,
        keeps,
        tt,
        subst (λ ws. Rule record { words = ws; homes = s.homes; views = set s.views id (drawing r.drawn m.0) }) (sym words) (drawn_rule s r id m.0 at rests few owns),
        ap (λ n. (drawing n m.0, m.1)) (sym found),
      )

  -- the slot goes to the pass whose ticket is served
  taken_rule : (s : S) (r : Rule s) (id : ℕ) (v : View E O) (t : ℕ) → get_elem? s.views id ≡ some v → v.stage ≡ Waiting t → t ≡ r.served → (x : T) → s.homes ≡ some (Some x) ∷ [] → history x ≡ entries r.log
      → Rule record { words = r.drawn ∷ r.served ∷ []; homes = none ∷ []; views = set s.views id (serving t (history x) v) }
  taken_rule s r id v t at waits now x home hist =
      let w = serving t (history x) v in
      let counted = sum_changes (λ (u : View E O). tickets u.stage) s.views id v w at in
      let one : tickets v.stage ≡ 1 = ap tickets waits in
      let out = r.tickets_out in
      let wide = length-set s.views id w in
      let mine = r.each_pass id v at in
      let stage : (r.served ≤ t) × (t < r.drawn) = subst (StageFits r.served r.drawn (s.homes ≡ none ∷ []) (v.seen ≡ entries r.log ∷ [])) waits mine.stage_is in
      let inside = stage.1 in
      let at_home : s.homes ≡ none ∷ [] → ⊥ = λ gone. filled (sym home ∙ gone) in record {
        drawn = r.drawn;
        served = r.served;
        log = r.log;
        words_are = refl;
        tickets_out = omega arith;
        tickets_differ = differ_after (λ k (u : View E O). HasTicket k u.stage) s.views id w r.tickets_differ
            (λ k j b other e (has : t ≡ k) hb. other (sym (r.tickets_differ k id j v b at e (subst (HasTicket k) (sym waits) has) hb)));
        slot_is = inr (refl, (id, w, t, set_here s.views id w (there s.views id v at), refl));
        each_pass = subst (λ n. (j : ℕ) (u : View E O) → get_elem? (set s.views id w) j ≡ some u → Fits first r.served r.drawn n (away ≡ none ∷ []) r.log u) (sym wide)
            (each_after (Fits first r.served r.drawn (length s.views) (away ≡ none ∷ []) r.log) s.views id w
            record {
              stage_is = (now, omega arith, refl, ap (λ h. h ∷ []) hist);
              seen_is = All-cons (λ h. IsPrefix h (entries r.log)) (history x) [] ([], append-nil (history x) ∙ hist) (All-nil (λ h. IsPrefix h (entries r.log)));
              own_is = mine.own_is;
              ticket_owns = let o = mine.ticket_owns in omega arith;
              few_enters = mine.few_enters;
              splits_are = mine.splits_are;
              origin_is = mine.origin_is;
            }
            (λ j u other e. let f = r.each_pass j u e in record {
              stage_is = stage_home r.served r.drawn (s.homes ≡ none ∷ []) (away ≡ none ∷ []) (u.seen ≡ entries r.log ∷ []) u.stage at_home f.stage_is;
              seen_is = f.seen_is;
              own_is = f.own_is;
              ticket_owns = f.ticket_owns;
              few_enters = f.few_enters;
              splits_are = f.splits_are;
              origin_is = f.origin_is;
            }));
        numbers_made = subst (λ n. All (λ (x : ℕ × E). x.0 < n) r.log) (sym wide) r.numbers_made;
        numbers_differ = λ n. let d = r.numbers_differ n in let c = sum_changes (λ (u : View E O). times n u.own) s.views id v w at in omega arith;
        enters_cover = let c = sum_changes (λ (u : View E O). u.enters) s.views id v w at in let e = r.enters_cover in omega arith;
        splits_cover = let c = sum_changes (λ (u : View E O). u.splits_left) s.views id v w at in let e = r.splits_cover in omega arith;
        entries_served = r.entries_served;
      }

  pub looks : (slots id : ℕ) (m : M) (t : ℕ) → m.0.stage ≡ Waiting t → Allows Rule slots id m 1 (λ n. n) (Looked history origin (step slots 1 0 0 none) m)
  looks slots id m t waits s r deep at small =
      let found : get_or s.words 1 0 ≡ r.served = ap (λ ws. get_or ws 1 0) r.words_are in
      let words : set s.words 1 (get_or s.words 1 0) ≡ r.drawn ∷ r.served ∷ [] = ap (λ ws. set ws 1 (get_or ws 1 0)) r.words_are in
      dite (ℕ_discrete (get_or s.words 1 0) t)
      (λ (hit : get_or s.words 1 0 ≡ t). ⊎_elim
      (λ (h : IsHome history origin first r.log s). let mine = r.each_pass id m.0 at in (
        serving t (history h.0) m.0,
        takes 0 (Some h.0),
        ap (λ hs. get_elem? hs 0) h.1,
        subst (λ (z : List ℕ × List (mathlib.Core.Option.Option (Option T))). Rule record { words = z.0; homes = z.1; views = set s.views id (serving t (history h.0) m.0) })
            (λ i. (sym words i, sym (ap (λ hs. set hs 0 none) h.1) i))
            (taken_rule s r id m.0 t at waits (sym hit ∙ found) h.0 h.1 h.2),
        subst (LooksAt history origin m (get_or s.words 1 0) (serving t (history h.0) m.0, (0, Some h.0) ∷ m.1)) (sym waits)
            ((λ _. (h.0, refl, subst (λ l. All (λ seen. IsPrefix seen l) m.0.seen) (sym h.2) mine.seen_is, λ o e. mine.origin_is o e ∙ sym h.3)), λ miss. absurd (miss hit)),
      ))
      (λ (o : IsOut s). absurd (out_now o (sym hit ∙ found)))
      r.slot_is)
      (λ (miss : get_or s.words 1 0 ≡ t → ⊥). (
        m.0,
        keeps,
        tt,
        subst (λ (z : List ℕ × List (View E O)). Rule record { words = z.0; homes = s.homes; views = z.1 })
            (λ i. ((r.words_are ∙ sym words) i, sym (set_again s.views id m.0 at) i)) r,
        subst (LooksAt history origin m (get_or s.words 1 0) (m.0, m.1)) (sym waits) ((λ hit. absurd (miss hit)), λ _. refl),
      ))
    where
      out_now : IsOut s → t ≡ r.served → ⊥
      out_now o now =
          let theirs = r.each_pass o.1.0 o.1.1 o.1.3 in
          let stage = subst (StageFits r.served r.drawn (s.homes ≡ none ∷ []) (o.1.1.seen ≡ entries r.log ∷ [])) o.1.4 theirs.stage_is in
          let same : o.1.0 ≡ id = r.tickets_differ r.served o.1.0 id o.1.1 m.0 o.1.3 at (subst (HasTicket r.served) (sym o.1.4) stage.0) (subst (HasTicket r.served) (sym waits) now) in
          let one : o.1.1 ≡ m.0 = same_there s.views id o.1.1 m.0 (subst (λ k. get_elem? s.views k ≡ some o.1.1) same o.1.3) at in
          waits_not_served t o.1.2 m.0.stage waits (ap (λ (u : View E O). u.stage) (sym one) ∙ o.1.4)
