-- A block under a label with typed slots runs well.
use Rattle.std.proofs.Common.{◌≡◌, ◌≢◌, ◌⊎◌, inl, inr, ℕ, suc, ◌+◌, Bool, true, false, if◌then◌else◌, List, [], ◌∷◌, length, slice_get, Option, Some, None, refl, sym, ap, subst, ◌∙◌}
use Rattle.std.specs.List.{AllByRecursion as Each}
use Rattle.std.proofs.lemmas.Bool.Decides.{eqb_tells}
use Rattle.m5_terms.specs.Primitives.{primitive_world, primitive_type}
use Rattle.m5_terms.specs.TypeExpression.{TypeExpression, bool, address, sum, function, list, same_world}
use Rattle.m5_terms.specs.Machine.{goes}
use Rattle.m5_terms.specs.declared.types.Primitive.{Primitive}
use Rattle.m5_terms.specs.declared.types.Primitive.TheVariants as primitive
use Rattle.m5_terms.specs.declared.types.World.{World}
use Rattle.m5_terms.specs.declared.types.World.TheVariants.{Any}
use Rattle.m5_terms.specs.declared.form.LeafForm.TheVariants as leaf_form
use Rattle.m5_typing.specs.Context.{CellTypes}
use Rattle.m5_cps.specs.Entries.{SlotType, of, takes, Mode, only, by_call, world_of, entry_mode, entry_type}
use Rattle.m5_cps.specs.Blocks.{Straight, if_true, if_left, if_nil, if_here, Ending, go, ask, send, done}
use Rattle.m5_cps.specs.Blocks as cps
use Rattle.m5_cps.specs.Values.{left, right, cons, atom, wrap, join, closed, call, put, put_all, filled_by}
use Rattle.m5_cps.specs.Units.{closure_units}
use Rattle.m5_cps.specs.Deeds.{tested}
use Rattle.m5_cps.specs.Slots.{Slot, Slots, fill, Needs}
use Rattle.m5_cps.specs.Fits.{EndingFits, Chosen}
use Rattle.m5_cps_typing.specs.States.{SlotsFit, Stands, ValueFits, SiteFits, RanFits}
use Rattle.m5_cps_typing.proofs.Worlds.{needed_here, holds_here, slots_put, slots_grown}
use Rattle.m5_cps_typing.proofs.Shapes.{shape}
use Rattle.m5_cps_typing.proofs.Deeds.{GoesOn, at_once}
use Rattle.m5_cps_typing.proofs.Straights.{performed_fits}
use Rattle.m5_cps_typing.proofs.Asked.{asked_fits}
use Rattle.m5_cps_typing.proofs.Endings.{stands_real, ended_fits}
use Rattle.m5_flat.specs.Blocks.{Code, straight, closure, test, Block, Named, Blocks, primitive_at}
use Rattle.m5_flat.specs.Blocks as block
use Rattle.m5_flat.specs.Values.{under, Value, Site, taken}
use Rattle.m5_flat.specs.Running.{primitive_of, asks_or_calls, ended, run}
use Rattle.m5_flat.specs.Fits.{no_setting, Environments, Fits}
use Rattle.m5_flat.specs.Program.{IsBlock, IsPrimitive}
use Rattle.m5_flat_typing.specs.Closures.{ClosureFits}
use Rattle.m5_flat_typing.proofs.Environments.{closure_laws, EnvOf, closure_holds}

-- a label of a primitive is that of one in the list
named_at : (B : Blocks) (M : Environments) (ps : List Named) (i : ℕ) (p : Primitive) → Each (IsPrimitive B M) ps → primitive_at ps i ≡ Some p → (a : Named) × IsPrimitive B M a × (a.label ≡ i) × (a.primitive ≡ p)
named_at B M [] i p h e = absurd (cc)
named_at B M (a ∷ ps) i p h e = elim (eqb_tells a.label i) [
  | inl y ↦ (let q : Some a.primitive ≡ Some p = sym (ap (λ b. if b then Some a.primitive else primitive_at ps i) y.0) ∙ e in (a, h.0, y.1, cc))
  | inr y ↦ named_at B M ps i p h.1 (sym (ap (λ b. if b then Some a.primitive else primitive_at ps i) y.0) ∙ e)
]

at_one_world : (p : Primitive) → primitive_world p ≢ Any
at_one_world primitive.Say = λ e. cc
at_one_world primitive.SetText = λ e. cc
at_one_world primitive.GetText = λ e. cc
at_one_world primitive.On = λ e. cc
at_one_world primitive.Read = λ e. cc
at_one_world primitive.Write = λ e. cc
at_one_world primitive.Watch = λ e. cc
at_one_world primitive.Show = λ e. cc

module _ (B : Blocks) (M : Environments) (blocks : (i : ℕ) (es : List Slot) (d : Block) → M i ≡ Some es → slice_get B.table i ≡ Some d → IsBlock B M es d) (primitives : Each (IsPrimitive B M) B.primitives) (u : World) (site : u ≢ Any) where
  abbrev pub Has : CellTypes → Value → SlotType → Type 0
  Has L a T = ValueFits (ClosureFits B M) no_setting L a u T

  -- a function that is a primitive is at the primitive's world, and has its type
  abbrev IsAt : Primitive → TypeExpression → TypeExpression → Type 0
  IsAt p A D = (u ≡ primitive_world p) × (primitive_type p ≡ function A D)

  primitive_is : (L : CellTypes) (f : Value) (A D : TypeExpression) (p : Primitive) → Has L f (of (function A D)) → primitive_of B f ≡ Some p → IsAt p A D
  primitive_is L (closed (under i k) ρ) A D p d e =
      let a = named_at B M B.primitives i p primitives e in
      let q : Some d.block ≡ Some _ = sym d.at ∙ ap (slice_get B.table) (sym a.2) ∙ a.1.block in
      by a.0 a.1 d.block (let z : d.block ≡ _ = cc in z) d.stands d.is a.3
    where
      by : (a : Named) (h : IsPrimitive B M a) (c : Block) → c ≡ record { entry = by_call (only (primitive_world a.primitive)) h.argument h.result; environment = []; code = block.ends (ask a.primitive 1 2) } → Stands u (world_of (entry_mode c.entry)) → of (function A D) ≡ entry_type c.entry → a.primitive ≡ p → IsAt p A D
      by a h c s st t r =
          let w : Stands u (primitive_world a.primitive) = subst (λ (x : Block). Stands u (world_of (entry_mode x.entry))) s st in
          let y : of (function A D) ≡ of (function h.argument h.result) = t ∙ ap (λ (x : Block). entry_type x.entry) s in
          (sym (stands_real u (primitive_world a.primitive) w (at_one_world a.primitive)) ∙ ap primitive_world r, ap primitive_type (sym r) ∙ h.type ∙ (let z : function h.argument h.result ≡ function A D = cc in z))
  primitive_is L (atom (leaf_form.Extern q)) A D p d e =
      let z : q ≡ p = cc in
      let y : of d.0 ≡ of (function A D) = sym d.1 in
      (d.3.0 ∙ ap primitive_world z, ap primitive_type (sym z) ∙ sym d.3.1 ∙ (let x : d.0 ≡ function A D = cc in x))
  primitive_is L _ A D p d e = absurd (cc)

  calls_fit : (L : CellTypes) (f x k : Value) (A D : TypeExpression) (s : Site) → Has L f (of (function A D)) → Has L x (of A) → Has L k (takes (of D)) → SiteFits (ClosureFits B M) no_setting L u s → RanFits (ClosureFits B M) no_setting L u (asks_or_calls (primitive_of B f) f x k s)
  calls_fit L f x k A D s df dx dk t = by (primitive_of B f) (λ p e. primitive_is L f A D p df e)
    where
      by : (o : Option Primitive) → ((p : Primitive) → o ≡ Some p → IsAt p A D) → RanFits (ClosureFits B M) no_setting L u (asks_or_calls o f x k s)
      by None q = at_once (ClosureFits B M) (closure_laws B M) no_setting u L (goes (record s { threads = call f x k ∷ s.threads; units = s.units + 3 })) (((A, D, df, dx, dk), t.0), t.1, t.2)
      by (Some p) q = let y = q p refl in asked_fits (ClosureFits B M) (closure_laws B M) no_setting L u p A D s k x y.0 y.1 dx dk t

  -- the slot's value, where the block runs
  here : (L : CellTypes) (b : World) (S : Slots) (ρ : ℕ → Value) (x : ℕ) (T : SlotType) → Stands u b → SlotsFit (EnvOf B M L ρ) u S → Needs S x (only b) T → Has L (ρ x) T
  here L b S ρ x T st h d = needed_here (ClosureFits B M) (closure_laws B M) no_setting L ρ u b S x T site st h d

  end_fits : (e : Ending) (L : CellTypes) (b : World) (S : Slots) (ρ : ℕ → Value) (s : Site) → Stands u b → EndingFits b S e → SlotsFit (EnvOf B M L ρ) u S → SiteFits (ClosureFits B M) no_setting L u s → RanFits (ClosureFits B M) no_setting L u (ended B e ρ s)
  end_fits (go k x) L b S ρ s st d h t = ended_fits (ClosureFits B M) (closure_laws B M) no_setting u site (go k x) L b S ρ s st d h t
  end_fits (cps.call f x k) L b S ρ s st d h t =
      calls_fit L (ρ f) (ρ x) (ρ k) d.0 d.1 s (here L b S ρ f (of (function d.0 d.1)) st h d.2) (here L b S ρ x (of d.0) st h d.3) (here L b S ρ k (takes (of d.1)) st h d.4) t
  end_fits (ask p x k) L b S ρ s st d h t = ended_fits (ClosureFits B M) (closure_laws B M) no_setting u site (ask p x k) L b S ρ s st d h t
  end_fits (send a k x) L b S ρ s st d h t = ended_fits (ClosureFits B M) (closure_laws B M) no_setting u site (send a k x) L b S ρ s st d h t
  end_fits done L b S ρ s st d h t = ended_fits (ClosureFits B M) (closure_laws B M) no_setting u site done L b S ρ s st d h t

  abbrev pub RunFits : Code → Type 0
  RunFits c = (L : CellTypes) (b : World) (n : ℕ) (S : Slots) (ρ : ℕ → Value) (s : Site) → Stands u b → Fits B M b n S c → SlotsFit (EnvOf B M L ρ) u S → SiteFits (ClosureFits B M) no_setting L u s → RanFits (ClosureFits B M) no_setting L u (run B u c n ρ s)

  -- it goes on when a value fills a slot
  filled_on : (c : Code) → RunFits c → (L : CellTypes) (b : World) (n : ℕ) (S : Slots) (ρ : ℕ → Value) → Stands u b → SlotsFit (EnvOf B M L ρ) u S → (m : Mode) (T : SlotType) → Fits B M b (suc n) (fill n m T S) c →
      GoesOn (ClosureFits B M) (closure_laws B M) no_setting u L m T (λ s a. run B u c (suc n) (put n a ρ) s)
  filled_on c k L b n S ρ st h m T f N s a g t d = k N b (suc n) (fill n m T S) (put n a ρ) s st f (slots_put (ClosureFits B M) (closure_laws B M) no_setting N ρ u S n m T a (slots_grown (ClosureFits B M) (closure_laws B M) no_setting L N ρ u S g.0 h) d) t

  straight_runs : (f : Straight) (c : Code) → RunFits c → RunFits (straight f c)
  straight_runs f c k L b n S ρ s st d h t = performed_fits (ClosureFits B M) (closure_laws B M) no_setting u site (λ w. refl) f L b S ρ s (λ m T. Fits B M b (suc n) (fill n m T S) c) (λ s a. run B u c (suc n) (put n a ρ) s) st d.1 h t (filled_on c k L b n S ρ st h)

  closure_runs : (ls : List ℕ) (i : ℕ) (c : Code) → RunFits c → RunFits (closure ls i c)
  closure_runs ls i c k L b n S ρ s st d h t =
      k L b (suc n) (fill n (entry_mode d.0.entry) (entry_type d.0.entry) S) (put n (closed (under i (length ls)) (taken ls ρ)) ρ) (record s { units = s.units + closure_units (length ls) }) st d.5
      (slots_put (ClosureFits B M) (closure_laws B M) no_setting L ρ u S n (entry_mode d.0.entry) (entry_type d.0.entry) (closed (under i (length ls)) (taken ls ρ)) h (closure_holds B M L ρ u b S ls i d.0 d.1 site st d.2 d.3 (blocks i d.1 d.0 d.3 d.2) d.4 h)) t

  -- both ways of a test
  abbrev Ways : CellTypes → cps.Test → Value → Code → Code → ℕ → (ℕ → Value) → Site → Type 0
  Ways L y a c e n ρ s = RanFits (ClosureFits B M) no_setting L u (tested u y a (λ parts. run B u c (filled_by parts n) (put_all n parts ρ) s) (λ parts. run B u e (filled_by parts n) (put_all n parts ρ) s))

  true_runs : (x : ℕ) (c e : Code) → RunFits c → RunFits e → RunFits (test if_true x c e)
  true_runs x c e k j L b n S ρ s st d h t =
      let q = shape (ClosureFits B M) (closure_laws B M) no_setting L u (ρ x) bool (here L b S ρ x (of bool) st h d.0) in
      subst (λ y. Ways L if_true y c e n ρ s) (sym q.1) (ways q.0)
    where
      ways : (q : Bool) → Ways L if_true (atom (leaf_form.Bool q)) c e n ρ s
      ways true = k L b n S ρ s st d.1 h t
      ways false = j L b n S ρ s st d.2 h t

  left_runs : (x : ℕ) (c e : Code) → RunFits c → RunFits e → RunFits (test if_left x c e)
  left_runs x c e k j L b n S ρ s st d h t = ways (shape (ClosureFits B M) (closure_laws B M) no_setting L u (ρ x) (sum d.0 d.1) (here L b S ρ x (of (sum d.0 d.1)) st h d.2))
    where
      ways : ((X : TypeExpression) × (a : Value) × (ρ x ≡ wrap (left X) a) × Has L a (of d.0)) ⊎ ((X : TypeExpression) × (a : Value) × (ρ x ≡ wrap (right X) a) × Has L a (of d.1)) → Ways L if_left (ρ x) c e n ρ s
      ways (inl q) = subst (λ y. Ways L if_left y c e n ρ s) (sym q.2)
          (k L b (suc n) (fill n (only b) (of d.0) S) (put n q.1 ρ) s st d.3 (slots_put (ClosureFits B M) (closure_laws B M) no_setting L ρ u S n (only b) (of d.0) q.1 h (holds_here (ClosureFits B M) (closure_laws B M) no_setting L q.1 u b (of d.0) st q.3)) t)
      ways (inr q) = subst (λ y. Ways L if_left y c e n ρ s) (sym q.2)
          (j L b (suc n) (fill n (only b) (of d.1) S) (put n q.1 ρ) s st d.4 (slots_put (ClosureFits B M) (closure_laws B M) no_setting L ρ u S n (only b) (of d.1) q.1 h (holds_here (ClosureFits B M) (closure_laws B M) no_setting L q.1 u b (of d.1) st q.3)) t)

  nil_runs : (x : ℕ) (c e : Code) → RunFits c → RunFits e → RunFits (test if_nil x c e)
  nil_runs x c e k j L b n S ρ s st d h t = ways (shape (ClosureFits B M) (closure_laws B M) no_setting L u (ρ x) (list d.0) (here L b S ρ x (of (list d.0)) st h d.1))
    where
      ways : ((X : TypeExpression) × (ρ x ≡ atom (leaf_form.Nil X))) ⊎ ((a y : Value) × (ρ x ≡ join cons a y) × Has L a (of d.0) × Has L y (of (list d.0))) → Ways L if_nil (ρ x) c e n ρ s
      ways (inl q) = subst (λ y. Ways L if_nil y c e n ρ s) (sym q.1) (k L b n S ρ s st d.2 h t)
      ways (inr q) = subst (λ y. Ways L if_nil y c e n ρ s) (sym q.2)
          (j L b (suc (suc n)) (fill (suc n) (only b) (of (list d.0)) (fill n (only b) (of d.0) S)) (put (suc n) q.1 (put n q.0 ρ)) s st d.3
          (slots_put (ClosureFits B M) (closure_laws B M) no_setting L (put n q.0 ρ) u (fill n (only b) (of d.0) S) (suc n) (only b) (of (list d.0)) q.1 (slots_put (ClosureFits B M) (closure_laws B M) no_setting L ρ u S n (only b) (of d.0) q.0 h (holds_here (ClosureFits B M) (closure_laws B M) no_setting L q.0 u b (of d.0) st q.3)) (holds_here (ClosureFits B M) (closure_laws B M) no_setting L q.1 u b (of (list d.0)) st q.4)) t)

  here_runs : (x : ℕ) (c e : Code) → RunFits c → RunFits e → RunFits (test if_here x c e)
  here_runs x c e k j L b n S ρ s st d h t =
      let q = shape (ClosureFits B M) (closure_laws B M) no_setting L u (ρ x) (address d.0) (here L b S ρ x (of (address d.0)) st h d.3) in
      subst (λ y. Ways L if_here y c e n ρ s) (sym q.1)
      (ways (same_world d.0 u) (subst (λ w. Chosen (same_world d.0 w) (Fits B M b n S c) (Fits B M b n S e)) (stands_real u b st d.2) d.4))
    where
      ways : (q : Bool) → Chosen q (Fits B M b n S c) (Fits B M b n S e) → RanFits (ClosureFits B M) no_setting L u (if q then run B u c n ρ s else run B u e n ρ s)
      ways true f = k L b n S ρ s st f h t
      ways false f = j L b n S ρ s st f h t

  pub run_fits : (c : Code) → RunFits c
  run_fits (straight f c) = straight_runs f c (run_fits c)
  run_fits (closure ls i c) = closure_runs ls i c (run_fits c)
  run_fits (test if_true x c e) = true_runs x c e (run_fits c) (run_fits e)
  run_fits (test if_left x c e) = left_runs x c e (run_fits c) (run_fits e)
  run_fits (test if_nil x c e) = nil_runs x c e (run_fits c) (run_fits e)
  run_fits (test if_here x c e) = here_runs x c e (run_fits c) (run_fits e)
  run_fits (block.ends e) = λ L b n S ρ s st d h t. end_fits e L b S ρ s st d h t
