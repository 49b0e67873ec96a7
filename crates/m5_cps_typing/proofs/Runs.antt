-- A block with typed slots runs well.
use Rattle.std.proofs.Common.{◌≡◌, ◌≢◌, ◌⊎◌, inl, inr, ℕ, suc, ◌+◌, Bool, true, false, if◌then◌else◌, IsTrue, [], refl, sym, ap, subst, ◌∙◌}
use Rattle.m5_terms.specs.TypeExpression.{TypeExpression, bool, address, sum, function, list, same_world}
use Rattle.m5_terms.specs.declared.types.World.{World}
use Rattle.m5_terms.specs.declared.types.World.TheVariants.{Any}
use Rattle.m5_terms.specs.declared.form.LeafForm.TheVariants as leaf_form
use Rattle.m5_typing.specs.Context.{Setting, CellTypes}
use Rattle.m5_cps.specs.Entries.{SlotType, of, Mode, only, everywhere, Entry, by_value, by_call, world_of, entry_mode, entry_type, entry_filled}
use Rattle.m5_cps.specs.Blocks.{Straight, constant, one, two, unheld, unsham, spawn, if_true, if_left, if_nil, if_here, Ending, go, ask, Code, straight, closure, test, Block, Blocks}
use Rattle.m5_cps.specs.Blocks as block
use Rattle.m5_cps.specs.Values.{left, right, cons, Value, atom, wrap, join, closed, Site, put, put_all, filled_by}
use Rattle.m5_cps.specs.Units.{closure_units}
use Rattle.m5_cps.specs.Deeds.{tested}
use Rattle.m5_cps.specs.Slots.{Slots, fill, is_mobile, Needs, Captures, entry_slots}
use Rattle.m5_cps.specs.Fits.{Chosen, Fits}
use Rattle.m5_cps_typing.specs.States.{at_site, Holds, SlotsFit, Stands, ValueFits, SiteFits, RanFits}
use Rattle.m5_cps.specs.Captured.{Closure, over, captured}
use Rattle.m5_cps.specs.Running.{run}
use Rattle.m5_cps_typing.specs.Closures.{ClosureFits}
use Rattle.m5_cps_typing.proofs.Worlds.{ClosureLaws, stands_at, at_site_stands, holds_map, Env, needed_here, holds_here, slots_put, slots_grown, captured_fit}
use Rattle.m5_cps_typing.proofs.Shapes.{shape}
use Rattle.m5_cps_typing.proofs.Deeds.{GoesOn}
use Rattle.m5_cps_typing.proofs.Straights.{performed_fits}
use Rattle.m5_cps_typing.proofs.Endings.{stands_real, ended_fits}

-- closures over slots are typed as closures are to be
pub closure_laws : (F : Setting) → ClosureLaws (ClosureFits F)
closure_laws F = record { grown = grown; stays = stays; function = named }
  where
    grown : (k : Closure) (V W : ℕ → World → SlotType → Type 0) (u : World) (T : SlotType) → ((l : ℕ) (v : World) (U : SlotType) → V l v U → W l v U) → ClosureFits F k V u T → ClosureFits F k W u T
    grown (over y n c) V W u T f d = record { slots = d.slots; stands = d.stands; fits = d.fits; is = d.is; filled = λ l m U e. holds_map (V l) (W l) u m U (λ v h. f l v U h) (d.filled l m U e) }

    of_no_mobile : (y : Entry) → IsTrue (is_mobile (entry_type y)) → ⊥
    of_no_mobile (by_value m T) h = cc
    of_no_mobile (by_call m A B) h = cc

    stays : (k : Closure) (V : ℕ → World → SlotType → Type 0) (u : World) (T : SlotType) → ClosureFits F k V u T → IsTrue (is_mobile T) → ⊥
    stays (over y n c) V u T d i = of_no_mobile y (subst (λ X. IsTrue (is_mobile X)) d.is i)

    by_entry : (y : Entry) (A : TypeExpression) → of A ≡ entry_type y → (B D : TypeExpression) × (A ≡ function B D)
    by_entry (by_value m T) A e = absurd (cc)
    by_entry (by_call m B D) A e = (B, D, cc)

    named : (k : Closure) (V : ℕ → World → SlotType → Type 0) (u : World) (A : TypeExpression) → ClosureFits F k V u (of A) → (B D : TypeExpression) × (A ≡ function B D)
    named (over y n c) V u A d = by_entry y A d.is

-- a closure that is made has its type in its block's mode
closure_holds : (F : Setting) (L : CellTypes) (ρ : ℕ → Value Closure) (u b : World) (y : Entry) (n : ℕ) (c : Code) (S R : Slots) → u ≢ Any → Stands u b → Captures b (entry_mode y) S R → Fits F (world_of (entry_mode y)) (entry_filled y n) (entry_slots y n R) c → SlotsFit (Env (ClosureFits F) (closure_laws F) F L ρ) u S →
    Holds (ValueFits (ClosureFits F) F L (closed (over y n c) ρ)) u (entry_mode y) (entry_type y)
closure_holds F L ρ u b y n c S R r st cs ft h = by (entry_mode y) refl
  where
    made : (x : World) → Stands x (world_of (entry_mode y)) → (entry_mode y ≡ only b → x ≡ u) → ValueFits (ClosureFits F) F L (closed (over y n c) ρ) x (entry_type y)
    made x s q = record { slots = R; stands = s; fits = ft; is = refl; filled = captured_fit (ClosureFits F) (closure_laws F) F L ρ u b x (entry_mode y) S R r cs q h }

    only_inj : (v w : World) → only v ≡ only w → v ≡ w
    only_inj v w e = cc

    by : (m : Mode) → entry_mode y ≡ m → Holds (ValueFits (ClosureFits F) F L (closed (over y n c) ρ)) u m (entry_type y)
    by (only v) e = made (at_site u v) (subst (λ m. Stands (at_site u v) (world_of m)) (sym e) (at_site_stands u v)) (λ i. ap (at_site u) (only_inj v b (sym e ∙ i)) ∙ stands_at u b st)
    by everywhere e = λ v q. made v (subst (λ m. Stands v (world_of m)) (sym e) (inr refl)) (λ i. let z : everywhere ≡ only b = sym e ∙ i in absurd (cc))

module _ (F : Setting) (u : World) (site : u ≢ Any) (bare : (w : World) → F.cells w ≡ []) where
  abbrev pub RunFits : Code → Type 0
  RunFits c = (L : CellTypes) (b : World) (n : ℕ) (S : Slots) (ρ : ℕ → Value Closure) (s : Site Closure) → Stands u b → Fits F b n S c → SlotsFit (Env (ClosureFits F) (closure_laws F) F L ρ) u S → SiteFits (ClosureFits F) F L u s → RanFits (ClosureFits F) F L u (run u c n ρ s)

  -- it goes on when a value fills a slot
  filled_on : (c : Code) → RunFits c → (L : CellTypes) (b : World) (n : ℕ) (S : Slots) (ρ : ℕ → Value Closure) → Stands u b → SlotsFit (Env (ClosureFits F) (closure_laws F) F L ρ) u S → (m : Mode) (T : SlotType) → Fits F b (suc n) (fill n m T S) c →
      GoesOn (ClosureFits F) (closure_laws F) F u L m T (λ s a. run u c (suc n) (put n a ρ) s)
  filled_on c k L b n S ρ st h m T f M s a g t d = k M b (suc n) (fill n m T S) (put n a ρ) s st f (slots_put (ClosureFits F) (closure_laws F) F M ρ u S n m T a (slots_grown (ClosureFits F) (closure_laws F) F L M ρ u S g.0 h) d) t

  straight_runs : (f : Straight) (c : Code) → RunFits c → RunFits (straight f c)
  straight_runs f c k L b n S ρ s st d h t = performed_fits (ClosureFits F) (closure_laws F) F u site bare f L b S ρ s (λ m T. Fits F b (suc n) (fill n m T S) c) (λ s a. run u c (suc n) (put n a ρ) s) st d h t (filled_on c k L b n S ρ st h)

  closure_runs : (y : Entry) (e c : Code) → RunFits c → RunFits (closure y e c)
  closure_runs y e c k L b n S ρ s st d h t =
      k L b (suc n) (fill n (entry_mode y) (entry_type y) S) (put n (closed (over y n e) ρ) ρ) (record s { units = s.units + closure_units (captured n e) }) st d.3
      (slots_put (ClosureFits F) (closure_laws F) F L ρ u S n (entry_mode y) (entry_type y) (closed (over y n e) ρ) h (closure_holds F L ρ u b y n e S d.0 site st d.1 d.2 h)) t

  -- the slot's value, where the block runs
  here : (L : CellTypes) (b : World) (S : Slots) (ρ : ℕ → Value Closure) (x : ℕ) (T : SlotType) → Stands u b → SlotsFit (Env (ClosureFits F) (closure_laws F) F L ρ) u S → Needs S x (only b) T → ValueFits (ClosureFits F) F L (ρ x) u T
  here L b S ρ x T st h d = needed_here (ClosureFits F) (closure_laws F) F L ρ u b S x T site st h d

  true_runs : (x : ℕ) (c e : Code) → RunFits c → RunFits e → RunFits (test if_true x c e)
  true_runs x c e k j L b n S ρ s st d h t =
      let q = shape (ClosureFits F) (closure_laws F) F L u (ρ x) bool (here L b S ρ x (of bool) st h d.0) in
      subst (λ y. RanFits (ClosureFits F) F L u (tested u if_true y (λ parts. run u c (filled_by parts n) (put_all n parts ρ) s) (λ parts. run u e (filled_by parts n) (put_all n parts ρ) s))) (sym q.1) (ways q.0)
    where
      ways : (q : Bool) → RanFits (ClosureFits F) F L u (tested u if_true (atom (leaf_form.Bool q)) (λ parts. run u c (filled_by parts n) (put_all n parts ρ) s) (λ parts. run u e (filled_by parts n) (put_all n parts ρ) s))
      ways true = k L b n S ρ s st d.1 h t
      ways false = j L b n S ρ s st d.2 h t

  left_runs : (x : ℕ) (c e : Code) → RunFits c → RunFits e → RunFits (test if_left x c e)
  left_runs x c e k j L b n S ρ s st d h t = ways (shape (ClosureFits F) (closure_laws F) F L u (ρ x) (sum d.0 d.1) (here L b S ρ x (of (sum d.0 d.1)) st h d.2))
    where
      ways : ((X : TypeExpression) × (a : Value Closure) × (ρ x ≡ wrap (left X) a) × ValueFits (ClosureFits F) F L a u (of d.0)) ⊎ ((X : TypeExpression) × (a : Value Closure) × (ρ x ≡ wrap (right X) a) × ValueFits (ClosureFits F) F L a u (of d.1)) →
          RanFits (ClosureFits F) F L u (tested u if_left (ρ x) (λ parts. run u c (filled_by parts n) (put_all n parts ρ) s) (λ parts. run u e (filled_by parts n) (put_all n parts ρ) s))
      ways (inl q) = subst (λ y. RanFits (ClosureFits F) F L u (tested u if_left y (λ parts. run u c (filled_by parts n) (put_all n parts ρ) s) (λ parts. run u e (filled_by parts n) (put_all n parts ρ) s))) (sym q.2)
          (k L b (suc n) (fill n (only b) (of d.0) S) (put n q.1 ρ) s st d.3 (slots_put (ClosureFits F) (closure_laws F) F L ρ u S n (only b) (of d.0) q.1 h (holds_here (ClosureFits F) (closure_laws F) F L q.1 u b (of d.0) st q.3)) t)
      ways (inr q) = subst (λ y. RanFits (ClosureFits F) F L u (tested u if_left y (λ parts. run u c (filled_by parts n) (put_all n parts ρ) s) (λ parts. run u e (filled_by parts n) (put_all n parts ρ) s))) (sym q.2)
          (j L b (suc n) (fill n (only b) (of d.1) S) (put n q.1 ρ) s st d.4 (slots_put (ClosureFits F) (closure_laws F) F L ρ u S n (only b) (of d.1) q.1 h (holds_here (ClosureFits F) (closure_laws F) F L q.1 u b (of d.1) st q.3)) t)

  nil_runs : (x : ℕ) (c e : Code) → RunFits c → RunFits e → RunFits (test if_nil x c e)
  nil_runs x c e k j L b n S ρ s st d h t = ways (shape (ClosureFits F) (closure_laws F) F L u (ρ x) (list d.0) (here L b S ρ x (of (list d.0)) st h d.1))
    where
      ways : ((X : TypeExpression) × (ρ x ≡ atom (leaf_form.Nil X))) ⊎ ((a y : Value Closure) × (ρ x ≡ join cons a y) × ValueFits (ClosureFits F) F L a u (of d.0) × ValueFits (ClosureFits F) F L y u (of (list d.0))) →
          RanFits (ClosureFits F) F L u (tested u if_nil (ρ x) (λ parts. run u c (filled_by parts n) (put_all n parts ρ) s) (λ parts. run u e (filled_by parts n) (put_all n parts ρ) s))
      ways (inl q) = subst (λ y. RanFits (ClosureFits F) F L u (tested u if_nil y (λ parts. run u c (filled_by parts n) (put_all n parts ρ) s) (λ parts. run u e (filled_by parts n) (put_all n parts ρ) s))) (sym q.1) (k L b n S ρ s st d.2 h t)
      ways (inr q) = subst (λ y. RanFits (ClosureFits F) F L u (tested u if_nil y (λ parts. run u c (filled_by parts n) (put_all n parts ρ) s) (λ parts. run u e (filled_by parts n) (put_all n parts ρ) s))) (sym q.2)
          (j L b (suc (suc n)) (fill (suc n) (only b) (of (list d.0)) (fill n (only b) (of d.0) S)) (put (suc n) q.1 (put n q.0 ρ)) s st d.3
          (slots_put (ClosureFits F) (closure_laws F) F L (put n q.0 ρ) u (fill n (only b) (of d.0) S) (suc n) (only b) (of (list d.0)) q.1 (slots_put (ClosureFits F) (closure_laws F) F L ρ u S n (only b) (of d.0) q.0 h (holds_here (ClosureFits F) (closure_laws F) F L q.0 u b (of d.0) st q.3)) (holds_here (ClosureFits F) (closure_laws F) F L q.1 u b (of (list d.0)) st q.4)) t)

  here_runs : (x : ℕ) (c e : Code) → RunFits c → RunFits e → RunFits (test if_here x c e)
  here_runs x c e k j L b n S ρ s st d h t =
      let q = shape (ClosureFits F) (closure_laws F) F L u (ρ x) (address d.0) (here L b S ρ x (of (address d.0)) st h d.3) in
      subst (λ y. RanFits (ClosureFits F) F L u (tested u if_here y (λ parts. run u c (filled_by parts n) (put_all n parts ρ) s) (λ parts. run u e (filled_by parts n) (put_all n parts ρ) s))) (sym q.1)
      (ways (same_world d.0 u) (subst (λ w. Chosen (same_world d.0 w) (Fits F b n S c) (Fits F b n S e)) (stands_real u b st d.2) d.4))
    where
      ways : (q : Bool) → Chosen q (Fits F b n S c) (Fits F b n S e) → RanFits (ClosureFits F) F L u (if q then run u c n ρ s else run u e n ρ s)
      ways true f = k L b n S ρ s st f h t
      ways false f = j L b n S ρ s st f h t

  pub run_fits : (c : Code) → RunFits c
  run_fits (straight f c) = straight_runs f c (run_fits c)
  run_fits (closure y e c) = closure_runs y e c (run_fits c)
  run_fits (test if_true x c e) = true_runs x c e (run_fits c) (run_fits e)
  run_fits (test if_left x c e) = left_runs x c e (run_fits c) (run_fits e)
  run_fits (test if_nil x c e) = nil_runs x c e (run_fits c) (run_fits e)
  run_fits (test if_here x c e) = here_runs x c e (run_fits c) (run_fits e)
  run_fits (block.ends e) = λ L b n S ρ s st d h t. ended_fits (ClosureFits F) (closure_laws F) F u site e L b S ρ s st d h t
