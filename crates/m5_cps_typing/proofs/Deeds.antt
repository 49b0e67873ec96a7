-- What a form makes is typed, and so is the site after its deed.
use Rattle.std.proofs.Common.{◌≡◌, ◌≢◌, ℕ, zero, suc, Bool, true, false, if◌then◌else◌, List, [], ◌∷◌, ◌++◌, length, slice_get, slice_set, Option, Some, refl, sym, subst}
use Rattle.m5_terms.specs.TypeExpression.{TypeExpression, unit, string, function, cell}
use Rattle.m5_terms.specs.Text.{IsText}
use Rattle.m5_terms.specs.Machine.{asks}
use Rattle.m5_terms.specs.Answers.{IsAnswer}
use Rattle.m5_terms.specs.declared.ask.AskOf.{AskOf}
use Rattle.m5_terms.specs.declared.ask.AskOf.TheVariants as query
use Rattle.m5_terms.specs.declared.ask.AnswerOf.{AnswerOf}
use Rattle.m5_terms.specs.declared.ask.AnswerOf.TheVariants as answer
use Rattle.m5_terms.specs.declared.ask.Cause.TheVariants.{Table}
use Rattle.m5_terms.specs.declared.types.World.{World}
use Rattle.m5_terms.specs.declared.types.World.TheVariants.{Any}
use Rattle.m5_terms.specs.declared.form.LeafForm.TheVariants as leaf_form
use Rattle.m5_terms.proofs.Lists.{each-map}
use Rattle.m5_typing.specs.Context.{Setting, CellTypes, type_at}
use Rattle.m5_meaning.specs.Step.{is_full}
use Rattle.m5_site_sound.specs.Settings.{Grows, GrowsAt}
use Rattle.m5_site_sound.proofs.Growth.{longer, longer-at, longer-own, own-self, own-on}
use Rattle.m5_cps.specs.Entries.{SlotType, of, takes, Mode, only, everywhere, world_of}
use Rattle.m5_cps.specs.Values.{Value, atom, Thread, enter, call, Item, Site, SiteNext}
use Rattle.m5_cps.specs.Made.{Made, gives, makes_text, makes_cell, loads, stores, fails}
use Rattle.m5_cps.specs.Deeds.{Ran, makes, ends, after_stop, stops_full, loaded, stored, did}
use Rattle.m5_cps_typing.specs.States.{at_site, Holds, ClosureTyping, ValueFits, ThreadFits, CellsFit, HandlerFits, SiteFits, AnswersFit, IsFitNext, NextFits, RanFits}
use Rattle.m5_cps_typing.proofs.Worlds.{ClosureLaws, value_grown}

module _ {C : Type 0} (K : ClosureTyping C) (laws : ClosureLaws K) (F : Setting) (u : World) where
  -- what is made has the type in the mode
  abbrev pub MadeFits : CellTypes → Mode → SlotType → Made C → Type 0
  MadeFits L m T (gives a) = Holds (ValueFits K F L a) u m T
  MadeFits L m T (makes_text t) = (T ≡ of string) × IsText t
  MadeFits L m T (makes_cell a) = (A : TypeExpression) × (T ≡ of (cell A)) × (at_site u (world_of m) ≡ u) × (m ≢ everywhere) × (u ≢ Any) × ValueFits K F L a u (of A)
  MadeFits L m T (loads n) = (A : TypeExpression) × (T ≡ of A) × (at_site u (world_of m) ≡ u) × (m ≢ everywhere) × (type_at (L u) n ≡ Some A)
  MadeFits L m T (stores n a) = (A : TypeExpression) × (T ≡ of unit) × (type_at (L u) n ≡ Some A) × ValueFits K F L a u (of A)
  MadeFits L m T fails = ⊥

  -- a block goes on with a value, at a site that has perhaps one cell more
  abbrev pub GoesOn : CellTypes → Mode → SlotType → (Site C → Value C → Ran C) → Type 0
  GoesOn L m T go_on = (M : CellTypes) (s : Site C) (a : Value C) → GrowsAt u L M → SiteFits K F M u s → Holds (ValueFits K F M a) u m T → RanFits K F M u (go_on s a)

  -- where the cells are more later, they are more than before
  pub ran_from : (L M : CellTypes) → GrowsAt u L M → (r : Ran C) → RanFits K F M u r → RanFits K F L u r
  ran_from L M g (makes p r) h = ran_from L M g r h
  ran_from L M g (ends x) h = record { cells = h.cells; grows = own-on u L M h.cells g h.grows; typed = h.typed }

  pub at_once : (L : CellTypes) (x : SiteNext C) → IsFitNext K F L u x → NextFits K F L u x
  at_once L x t = record { cells = L; grows = own-self u L; typed = t }

  pub threads_grown : (L M : CellTypes) → Grows L M → (t : Thread C) → ThreadFits K F L u t → ThreadFits K F M u t
  threads_grown L M g (enter k x) d = (d.0, value_grown K laws F L M g k u (takes d.0) d.1, value_grown K laws F L M g x u d.0 d.2)
  threads_grown L M g (call f x k) d = (d.0, d.1, value_grown K laws F L M g f u (of (function d.0 d.1)) d.2, value_grown K laws F L M g x u (of d.0) d.3, value_grown K laws F L M g k u (takes (of d.1)) d.4)

  cells_grown : (L M : CellTypes) → Grows L M → (rest : List (Value C)) (As : List TypeExpression) → CellsFit K F L u rest As → CellsFit K F M u rest As
  cells_grown L M g [] [] h = tt
  cells_grown L M g [] (A ∷ As) h = absurd h
  cells_grown L M g (a ∷ rest) [] h = absurd h
  cells_grown L M g (a ∷ rest) (A ∷ As) h = (value_grown K laws F L M g a u (of A) h.0, cells_grown L M g rest As h.1)

  pub site_grown : (L M : CellTypes) → Grows L M → M u ≡ L u → (s : Site C) → SiteFits K F L u s → SiteFits K F M u s
  site_grown L M g same s h = (
    each-map (ThreadFits K F L u) (ThreadFits K F M u) (threads_grown L M g) s.threads h.0,
    subst (CellsFit K F M u s.cells) (sym same) (cells_grown L M g s.cells (L u) h.1),
    each-map (HandlerFits K F L u) (HandlerFits K F M u) (λ a d. value_grown K laws F L M g a u (of (function string unit)) d) s.handlers h.2,
  )

  cell_there : (L : CellTypes) (rest : List (Value C)) (As : List TypeExpression) (n : ℕ) (A : TypeExpression) → CellsFit K F L u rest As → type_at As n ≡ Some A → (a : Value C) × (slice_get rest n ≡ Some a) × ValueFits K F L a u (of A)
  cell_there L [] [] n A h e = absurd (cc)
  cell_there L [] (B ∷ As) n A h e = absurd h
  cell_there L (a ∷ rest) [] n A h e = absurd h
  cell_there L (a ∷ rest) (B ∷ As) zero A h e = (a, refl, subst (λ C. ValueFits K F L a u (of C)) (let q : B ≡ A = cc in q) h.0)
  cell_there L (a ∷ rest) (B ∷ As) (suc n) A h e = cell_there L rest As n A h.1 e

  cell_set : (L : CellTypes) (rest : List (Value C)) (As : List TypeExpression) (n : ℕ) (A : TypeExpression) (a : Value C) → CellsFit K F L u rest As → type_at As n ≡ Some A → ValueFits K F L a u (of A) → CellsFit K F L u (slice_set rest n a) As
  cell_set L [] [] n A a h e d = tt
  cell_set L [] (B ∷ As) n A a h e d = absurd h
  cell_set L (b ∷ rest) [] n A a h e d = absurd h
  cell_set L (b ∷ rest) (B ∷ As) zero A a h e d = (subst (λ C. ValueFits K F L a u (of C)) (let q : A ≡ B = cc in q) d, h.1)
  cell_set L (b ∷ rest) (B ∷ As) (suc n) A a h e d = (h.0, cell_set L rest As n A a h.1 e d)

  cell_added : (L : CellTypes) (rest : List (Value C)) (As : List TypeExpression) (A : TypeExpression) (a : Value C) → CellsFit K F L u rest As → ValueFits K F L a u (of A) → CellsFit K F L u (rest ++ a ∷ []) (As ++ A ∷ [])
  cell_added L [] [] A a h d = (d, tt)
  cell_added L [] (B ∷ As) A a h d = absurd h
  cell_added L (b ∷ rest) [] A a h d = absurd h
  cell_added L (b ∷ rest) (B ∷ As) A a h d = (h.0, cell_added L rest As A a h.1 d)

  last_type : (L : CellTypes) (rest : List (Value C)) (As : List TypeExpression) (A : TypeExpression) → CellsFit K F L u rest As → type_at (As ++ A ∷ []) (length rest) ≡ Some A
  last_type L [] [] A h = refl
  last_type L [] (B ∷ As) A h = absurd h
  last_type L (a ∷ rest) [] A h = absurd h
  last_type L (a ∷ rest) (B ∷ As) A h = last_type L rest As A h.1

  -- a value of a mobile type in any mode
  pub holds_all : (L : CellTypes) (a : Value C) (m : Mode) (T : SlotType) → ((v : World) → ValueFits K F L a v T) → Holds (ValueFits K F L a) u m T
  holds_all L a (only v) T h = h (at_site u v)
  holds_all L a everywhere T h = λ v r. h v

  -- a value in a mode of one world
  holds_only : (L : CellTypes) (a : Value C) (m : Mode) (T : SlotType) → at_site u (world_of m) ≡ u → m ≢ everywhere → ValueFits K F L a u T → Holds (ValueFits K F L a) u m T
  holds_only L a (only v) T e n h = subst (λ x. ValueFits K F L a x T) (sym e) h
  holds_only L a everywhere T e n h = absurd (n refl)

  -- asks that are only told that they are done
  abbrev pub IsTold : AskOf (Item C) → Type 0
  IsTold query.Take = ⊥
  IsTold (query.Read k) = ⊥
  IsTold (query.GetText e) = ⊥
  IsTold _ = Unit {0}

  only_done : (q : AskOf (Item C)) → IsTold q → (r : AnswerOf (Item C)) → IsAnswer q r → r ≡ answer.Done
  only_done query.Take t r k = absurd t
  only_done (query.Read j) t r k = absurd t
  only_done (query.GetText j) t r k = absurd t
  only_done _ t answer.Done k = refl
  only_done _ t _ k = absurd k

  -- what makes a typed site of done
  pub told_fits : (L : CellTypes) (q : AskOf (Item C)) (resume : AnswerOf (Item C) → Option (Site C)) (s : Site C) → IsTold q → resume answer.Done ≡ Some s → SiteFits K F L u s → AnswersFit K F L u q resume
  told_fits L q resume s t e h M r g same a k = subst (λ r. (x : Site C) × (resume r ≡ Some x) × SiteFits K F M u x) (sym (only_done q t r a)) (s, e, site_grown L M g same s h)

  pub stop_fits : (L : CellTypes) (s : Site C) → SiteFits K F L u s → RanFits K F L u (stops_full s)
  stop_fits L s h = at_once L (asks (query.Stop Table) (after_stop s)) (tt, told_fits L (query.Stop Table) (after_stop s) (record s { stopped = true }) tt refl h)

  pub did_fits : (L : CellTypes) (m : Mode) (T : SlotType) (d : Made C) (s : Site C) (go_on : Site C → Value C → Ran C) → MadeFits L m T d → SiteFits K F L u s → GoesOn L m T go_on → RanFits K F L u (did u s d go_on)
  did_fits L m T (gives a) s go_on h t k = k L s a (own-self u L) t h
  did_fits L m T (makes_text x) s go_on h t k = k L s (atom (leaf_form.Str x)) (own-self u L) t (holds_all L (atom (leaf_form.Str x)) m T (λ v. (string, h.0, refl, (refl, h.1))))
  did_fits L m T (makes_cell a) s go_on h t k = full (is_full s.cells)
    where
      M : CellTypes
      M = longer u h.0 L

      own : GrowsAt u L M
      own = longer-own u h.0 L

      cells : CellsFit K F M u (s.cells ++ a ∷ []) (M u)
      cells = subst (CellsFit K F M u (s.cells ++ a ∷ [])) (sym (longer-at u h.0 L)) (cell_added M s.cells (L u) h.0 a (cells_grown L M own.0 s.cells (L u) t.1) (value_grown K laws F L M own.0 a u (of h.0) h.5))

      full : (b : Bool) → RanFits K F L u (if b then stops_full s else go_on (record s { cells = s.cells ++ a ∷ [] }) (atom (leaf_form.CellAt u (length s.cells))))
      full true = stop_fits L s t
      full false = ran_from L M own (go_on (record s { cells = s.cells ++ a ∷ [] }) (atom (leaf_form.CellAt u (length s.cells))))
          (k M (record s { cells = s.cells ++ a ∷ [] }) (atom (leaf_form.CellAt u (length s.cells))) own
          (each-map (ThreadFits K F L u) (ThreadFits K F M u) (threads_grown L M own.0) s.threads t.0, cells, each-map (HandlerFits K F L u) (HandlerFits K F M u) (λ b d. value_grown K laws F L M own.0 b u (of (function string unit)) d) s.handlers t.2)
          (subst (Holds (ValueFits K F M (atom (leaf_form.CellAt u (length s.cells)))) u m) (sym h.1) (holds_only M (atom (leaf_form.CellAt u (length s.cells))) m (of (cell h.0)) h.2 h.3
          (cell h.0, refl, refl, (h.0, h.4, refl, subst (λ As. type_at As (length s.cells) ≡ Some h.0) (sym (longer-at u h.0 L)) (last_type L s.cells (L u) h.0 t.1), refl)))))
  did_fits L m T (loads n) s go_on h t k =
      let c = cell_there L s.cells (L u) n h.0 t.1 h.4 in
      subst (λ o. RanFits K F L u (loaded s go_on o)) (sym c.1) (k L s c.0 (own-self u L) t (subst (Holds (ValueFits K F L c.0) u m) (sym h.1) (holds_only L c.0 m (of h.0) h.2 h.3 c.2)))
  did_fits L m T (stores n a) s go_on h t k =
      let c = cell_there L s.cells (L u) n h.0 t.1 h.2 in
      subst (λ o. RanFits K F L u (stored s go_on n a o)) (sym c.1) (k L (record s { cells = slice_set s.cells n a }) (atom leaf_form.Unit) (own-self u L) (t.0, cell_set L s.cells (L u) n h.0 a t.1 h.2 h.3, t.2) (holds_all L (atom leaf_form.Unit) m T (λ v. (unit, h.1, refl, refl))))
  did_fits L m T fails s go_on h t k = absurd h
