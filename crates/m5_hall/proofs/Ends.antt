-- What is so in the last state of a hall.
use Rattle.std.proofs.Common.{◌≡◌, ◌≢◌, ⊎_elim, ℕ, ◌+◌, ◌≤◌, ◌<◌, List, [], ◌∷◌, length, Option, Some, None, IsSome, refl, sym, ap, ◌∙◌, subst, arith}
use Rattle.std.specs.List.{All}
use Rattle.std.proofs.lemmas.List.{length-map}
use Rattle.std.proofs.lemmas.List.Elements.{All-weaker, All-head}
use mathlib.Core.Logic.{dite}
use mathlib.Core.Option.{some, some-injective}
use mathlib.Core.List.{IsPrefix}
use native.Mathlib.Decide.{ℕ_discrete}
use lib.ListN.{get_elem?}
use Rattle.atomic_table.specs.Table.{State, Seen, Final}
use Rattle.m5_hall.specs.declared.views.View.{View}
use Rattle.m5_hall.specs.declared.views.Stage.TheVariants.{Resting}
use Rattle.m5_hall.specs.History.{entries, made_by, times, entry_count, HasOwn}
use Rattle.m5_hall.specs.Rule.{tickets, IsHome, IsOut, HallRule}
use Rattle.m5_hall.proofs.Sums.{term_below, two_below, sum_at_most}
use Rattle.m5_hall.proofs.Logs.{once_there}
use Rattle.m5_hall.proofs.Counts.{IsOnce, at_most_all, no_others, at_least_all, each_has_one}

-- the one value that it can have
pub origin_at : {O : Type 0} (o : Option O) (y : O) → IsSome o → ((x : O) → o ≡ Some x → x ≡ y) → o ≡ Some y
origin_at None y some_there all = absurd (cc)
origin_at (Some x) y some_there all = ap Some (all x refl)

module _ {T E O : Type 0} (history : T → List E) (origin : T → O) where
  -- the value that the slot has, beside what a pass knows
  pub record EndsWith (v : View E O) (x : T) : Type 0 where
    pub seen_is : All (λ seen. IsPrefix seen (history x)) v.seen
    pub origin_is : (o : O) → v.origin ≡ Some o → o ≡ origin x
    pub own_is : HasOwn (history x) v.own
    pub whole : length v.own + v.splits_left ≡ 1048576 → entry_count v.own ≡ length (history x)

  pub record Ended (v : View E O) (drawn served : ℕ) (slot : Option T) : Type 0 where
    pub ordered : served ≤ drawn
    pub few : entry_count v.own ≤ served
    pub home : drawn ≡ served → (x : T) × (slot ≡ Some x) × EndsWith v x
    pub whole : length v.own + v.splits_left ≡ 1048576 → drawn ≡ served

  -- the value that was found in the slot
  pub home_at : (v : View E O) (drawn served : ℕ) (y : T) → Ended v drawn served (Some y) → drawn ≡ served → EndsWith v y
  home_at v drawn served y e same = let h = e.home same in subst (EndsWith v) (sym (inside h.1)) h.2
    where
      inside : {x z : T} → Some x ≡ Some z → x ≡ z
      inside e = cc

module _ {T E O : Type 0} (history : T → List E) (origin : T → O) (first : O) where
  abbrev S : Type 0
  S = State (Option T) (View E O)

  abbrev Rule : S → Type 0
  Rule = HallRule history origin first

  -- no number has two lists among one pass's
  once : (s : S) (r : Rule s) (id : ℕ) (v : View E O) → get_elem? s.views id ≡ some v → IsOnce v.own
  once s r id v at n = let a = term_below (λ (u : View E O). times n u.own) s.views id v at in let b = r.numbers_differ n in omega arith

  just_own : (log : List (ℕ × E)) (passes : ℕ) (own : List (ℕ × List E)) → All (λ x. (made_by x.0 log ≡ x.1) × (x.0 < passes)) own → All (λ x. made_by x.0 log ≡ x.1) own
  just_own log passes own = All-weaker (λ (x : ℕ × List E). (made_by x.0 log ≡ x.1) × (x.0 < passes)) (λ (x : ℕ × List E). made_by x.0 log ≡ x.1) (λ x p. p.0) own

  -- where each pass was joined into this one, each number has a list here
  each_here : (s : S) (r : Rule s) (id : ℕ) (v : View E O) → get_elem? s.views id ≡ some v → length v.own + v.splits_left ≡ 1048576 → (k : ℕ) → k < length s.views → 1 ≤ times k v.own
  each_here s r id v at whole =
      let mine = r.each_pass id v at in
      let a = term_below (λ (u : View E O). u.splits_left) s.views id v at in
      let b = r.splits_cover in
      each_has_one (length s.views) v.own (once s r id v at)
      (All-weaker (λ (x : ℕ × List E). (made_by x.0 r.log ≡ x.1) × (x.0 < length s.views)) (λ (x : ℕ × List E). x.0 < length s.views) (λ x p. p.1) v.own mine.own_is) (omega arith)

  -- so no other pass has a list, nor a ticket
  no_tickets : (s : S) (r : Rule s) (id : ℕ) (v : View E O) → get_elem? s.views id ≡ some v → v.stage ≡ Resting → length v.own + v.splits_left ≡ 1048576 → r.drawn ≡ r.served
  no_tickets s r id v at rests whole =
      let none = sum_at_most (λ (u : View E O). tickets u.stage) 0 s.views each in
      let out = r.tickets_out in
      omega arith
    where
      none_of : (j : ℕ) (u : View E O) → j ≢ id → get_elem? s.views j ≡ some u → (own : List (ℕ × List E)) → u.own ≡ own → length own ≡ 0
      none_of j u other e [] is = refl
      none_of j u other e (x ∷ xs) is =
          let theirs = r.each_pass j u e in
          let below : x.0 < length s.views = (All-head (λ (y : ℕ × List E). (made_by y.0 r.log ≡ y.1) × (y.0 < length s.views)) x xs (subst (All (λ y. (made_by y.0 r.log ≡ y.1) × (y.0 < length s.views))) is theirs.own_is)).1 in
          let here = each_here s r id v at whole x.0 below in
          let there : 1 ≤ times x.0 u.own = subst (λ own. 1 ≤ times x.0 own) (sym is) (once_there x.0 (x ∷ xs) 0 x (omega arith) refl) in
          let both = two_below (λ (z : View E O). times x.0 z.own) s.views j id u v other e at in
          let most = r.numbers_differ x.0 in
          absurd (omega arith)

      each : (j : ℕ) (u : View E O) → get_elem? s.views j ≡ some u → tickets u.stage ≤ 0
      each j u e = dite (ℕ_discrete j id)
          (λ (same : j ≡ id).
          let one : u ≡ v = some-injective u v (sym e ∙ (ap (get_elem? s.views) same ∙ at)) in
          let none_mine : tickets u.stage ≡ 0 = ap tickets (ap (λ (z : View E O). z.stage) one ∙ rests) in
          omega arith)
          (λ (other : j ≡ id → ⊥).
          let a = (r.each_pass j u e).ticket_owns in
          let b = none_of j u other e u.own refl in
          omega arith)

  -- with no ticket out the slot is at home
  at_home : (s : S) (r : Rule s) → r.drawn ≡ r.served → IsHome history origin first r.log s
  at_home s r same = ⊎_elim
      (λ (h : IsHome history origin first r.log s). h)
      (λ (o : IsOut s).
      let a = term_below (λ (u : View E O). tickets u.stage) s.views o.1.0 o.1.1 o.1.3 in
      let one : tickets o.1.1.stage ≡ 1 = ap tickets o.1.4 in
      let out = r.tickets_out in
      absurd (omega arith))
      r.slot_is

  ends_with : (s : S) (r : Rule s) (id : ℕ) (v : View E O) → get_elem? s.views id ≡ some v → (x : T) → history x ≡ entries r.log → origin x ≡ first → EndsWith history origin v x
  ends_with s r id v at x hist begins =
      let mine = r.each_pass id v at in
      let own = just_own r.log (length s.views) v.own mine.own_is in
      let long : length (history x) ≡ length r.log = ap length hist ∙ length-map r.log (λ (e : ℕ × E). e.1) in record {
        seen_is = subst (λ l. All (λ seen. IsPrefix seen l) v.seen) (sym hist) mine.seen_is;
        origin_is = λ o e. mine.origin_is o e ∙ sym begins;
        own_is = record {
          log = r.log;
          log_is = sym hist;
          own_is = own;
          no_others = λ full. no_others v.own r.log (once s r id v at) own (full ∙ long);
        };
        whole = λ all.
            let least = at_least_all v.own r.log own (All-weaker (λ (e : ℕ × E). e.0 < length s.views) (λ (e : ℕ × E). 1 ≤ times e.0 v.own) (λ e below. each_here s r id v at all e.0 below) r.log r.numbers_made) in
            let most = at_most_all v.own r.log (once s r id v at) own in
            omega arith;
      }

  pub ended : (ws : List ℕ) (xs : List (Option T)) (id : ℕ) (v : View E O) (drawn served : ℕ) (slot : Option T) → v.stage ≡ Resting → Final (Seen Rule id v) ws xs
      → get_elem? ws 0 ≡ some drawn → get_elem? ws 1 ≡ some served → get_elem? xs 0 ≡ some slot → Ended history origin v drawn served slot
  ended ws xs id v drawn served slot rests last first_word second_word in_slot =
      let s = last.0 in
      let r = last.1.0 in
      let at = last.1.1 in
      let mine = r.each_pass id v at in
      let words : r.drawn ∷ r.served ∷ [] ≡ ws = sym r.words_are ∙ last.2 in
      let drew : r.drawn ≡ drawn = some-injective r.drawn drawn (ap (λ l. get_elem? l 0) words ∙ first_word) in
      let serves : r.served ≡ served = some-injective r.served served (ap (λ l. get_elem? l 1) words ∙ second_word) in
      let out = r.tickets_out in
      let few = at_most_all v.own r.log (once s r id v at) (just_own r.log (length s.views) v.own mine.own_is) in
      let all_served = r.entries_served in record {
        ordered = omega arith;
        few = omega arith;
        home = λ same. let h = at_home s r (drew ∙ (same ∙ sym serves)) in (
          h.0,
          some-injective slot (Some h.0) (sym in_slot ∙ last.4 0 (Some h.0) (ap (λ l. get_elem? l 0) h.1)),
          ends_with s r id v at h.0 h.2 h.3,
        );
        whole = λ all. sym drew ∙ (no_tickets s r id v at rests all ∙ serves);
      }
