-- A typed thread's block runs well: its slots have the types of its label's environment and entry.
use Rattle.std.proofs.Common.{◌≡◌, ◌≢◌, inl, inr, ℕ, suc, List, length, slice_get, Option, Some, refl, sym, ap, subst, ◌∙◌}
use Rattle.std.specs.List.{AllByRecursion as Each}
use Rattle.m5_terms.specs.TypeExpression.{TypeExpression, unit, bool, int, string, address, product, sum, function, list, cell, sham, at}
use Rattle.m5_terms.specs.declared.types.World.{World}
use Rattle.m5_terms.specs.declared.types.World.TheVariants.{Any}
use Rattle.m5_terms.specs.declared.form.LeafForm.TheVariants as leaf_form
use Rattle.m5_typing.specs.Context.{CellTypes, IsKnownAt}
use Rattle.m5_cps.specs.Entries.{SlotType, of, takes, only, Entry, by_value, by_call, world_of, entry_mode, entry_type, entry_filled}
use Rattle.m5_cps.specs.Values.{left, right, held, pair, cons, atom, wrap, join, closed, enter, call, put}
use Rattle.m5_cps.specs.Values as value
use Rattle.m5_cps.specs.Slots.{Slot, Slots, fill, entry_slots, entered_at}
use Rattle.m5_cps_typing.specs.States.{SlotsFit, Stands, ThreadFits, SiteFits, RanFits}
use Rattle.m5_cps_typing.proofs.Worlds.{holds_here, slots_put}
use Rattle.m5_cps_typing.proofs.Asked.{asked_fits}
use Rattle.m5_flat.specs.Blocks.{Code, Block, Blocks}
use Rattle.m5_flat.specs.Values.{under, Value, Thread, Site}
use Rattle.m5_flat.specs.Running.{Entered, enter_block, call_block, with_block, entered_by, called_by, resolved, started}
use Rattle.m5_flat.specs.Fits.{no_setting, Environments, Fits}
use Rattle.m5_flat.specs.Program.{IsBlock, IsPrimitive}
use Rattle.m5_flat_typing.specs.Closures.{ClosureFits}
use Rattle.m5_flat_typing.proofs.Environments.{closure_laws, EnvOf}
use Rattle.m5_flat_typing.proofs.Runs.{Has, run_fits}

abbrev a_block : Entry → List SlotType → Code → Block
a_block y types c = record { entry = y; environment = types; code = c }

takes_is : (T U : SlotType) → takes T ≡ takes U → T ≡ U
takes_is T U e = cc

function_is : (A D G H : TypeExpression) → of (function A D) ≡ of (function G H) → (A ≡ G) × (D ≡ H)
function_is A D G H e = (cc, cc)

module _ (B : Blocks) (M : Environments) (blocks : (i : ℕ) (es : List Slot) (d : Block) → M i ≡ Some es → slice_get B.table i ≡ Some d → IsBlock B M es d) (primitives : Each (IsPrimitive B M) B.primitives) (u : World) (site : u ≢ Any) where
  abbrev In : CellTypes → Value → SlotType → Type 0
  In L a T = Has B M blocks primitives u site L a T

  abbrev Runs : CellTypes → Site → Option Entered → Type 0
  Runs L s e = RanFits (ClosureFits B M) no_setting L u (started B u s e)

  -- slots of a block that is entered with a value
  entered_slots : (L : CellTypes) (b : World) (n : ℕ) (ρ : ℕ → Value) (S : Slots) (C T : SlotType) (a x : Value) → Stands u b → SlotsFit (EnvOf B M L ρ) u S → In L a C → In L x T → SlotsFit (EnvOf B M L (put (suc n) x (put n a ρ))) u (entered_at b n C T S)
  entered_slots L b n ρ S C T a x st h da dx = slots_put (ClosureFits B M) (closure_laws B M) no_setting L (put n a ρ) u (fill n (only b) C S) (suc n) (only b) T x (slots_put (ClosureFits B M) (closure_laws B M) no_setting L ρ u S n (only b) C a h (holds_here (ClosureFits B M) (closure_laws B M) no_setting L a u b C st da)) (holds_here (ClosureFits B M) (closure_laws B M) no_setting L x u b T st dx)

  called_slots : (L : CellTypes) (b : World) (n : ℕ) (ρ : ℕ → Value) (S : Slots) (A D : TypeExpression) (a x j : Value) → Stands u b → SlotsFit (EnvOf B M L ρ) u S → In L a (of (function A D)) → In L x (of A) → In L j (takes (of D)) → SlotsFit (EnvOf B M L (put (suc (suc n)) j (put (suc n) x (put n a ρ)))) u (entry_slots (by_call (only b) A D) n S)
  called_slots L b n ρ S A D a x j st h da dx dj = slots_put (ClosureFits B M) (closure_laws B M) no_setting L (put (suc n) x (put n a ρ)) u (entered_at b n (of (function A D)) (of A) S) (suc (suc n)) (only b) (takes (of D)) j (entered_slots L b n ρ S (of (function A D)) (of A) a x st h da dx) (holds_here (ClosureFits B M) (closure_laws B M) no_setting L j u b (takes (of D)) st dj)

  -- where the block of a label begins, over as many values as its environment has
  begins : (es : List Slot) (k : ℕ) (y : Entry) (types : List SlotType) (c : Code) → IsBlock B M es (a_block y types c) → k ≡ length types → Fits B M (world_of (entry_mode y)) (entry_filled y k) (entry_slots y k (slice_get es)) c
  begins es k y types c w e = subst (λ n. Fits B M (world_of (entry_mode y)) (entry_filled y n) (entry_slots y n (slice_get es)) c) (sym e) w.fits

  entered_runs : (L : CellTypes) (s : Site) (i k : ℕ) (ρ : ℕ → Value) (x : Value) (T : SlotType) (y : Entry) (types : List SlotType) (c : Code) (es : List Slot) → M i ≡ Some es → slice_get B.table i ≡ Some (a_block y types c) → k ≡ length types → Stands u (world_of (entry_mode y)) → takes T ≡ entry_type y → SlotsFit (EnvOf B M L ρ) u (slice_get es) → In L x T → SiteFits (ClosureFits B M) no_setting L u s →
      Runs L s (enter_block i k ρ x y c)
  entered_runs L s i k ρ x T (by_call m A D) types c es o g n st e h dx t = absurd (cc)
  entered_runs L s i k ρ x T (by_value m U) types c es o g n st e h dx t =
      run_fits B M blocks primitives u site c L (world_of m) (suc (suc k)) (entered_at (world_of m) k (takes U) U (slice_get es)) (put (suc k) x (put k (closed (under i k) ρ) ρ)) (record s { entered = suc s.entered }) st
      (begins es k (by_value m U) types c (blocks i es (a_block (by_value m U) types c) o g) n)
      (entered_slots L (world_of m) k ρ (slice_get es) (takes U) U (closed (under i k) ρ) x st h (record { block = a_block (by_value m U) types c; at = g; environment = es; known = o; count = n; stands = st; is = refl; filled = h }) (subst (In L x) (takes_is T U e) dx)) t

  called_runs : (L : CellTypes) (s : Site) (i k : ℕ) (ρ : ℕ → Value) (x j : Value) (A D : TypeExpression) (y : Entry) (types : List SlotType) (c : Code) (es : List Slot) → M i ≡ Some es → slice_get B.table i ≡ Some (a_block y types c) → k ≡ length types → Stands u (world_of (entry_mode y)) → of (function A D) ≡ entry_type y → SlotsFit (EnvOf B M L ρ) u (slice_get es) → In L x (of A) → In L j (takes (of D)) → SiteFits (ClosureFits B M) no_setting L u s →
      Runs L s (call_block i k ρ x j y c)
  called_runs L s i k ρ x j A D (by_value m U) types c es o g n st e h dx dj t = absurd (cc)
  called_runs L s i k ρ x j A D (by_call m G H) types c es o g n st e h dx dj t =
      let q = function_is A D G H e in
      run_fits B M blocks primitives u site c L (world_of m) (suc (suc (suc k))) (entry_slots (by_call m G H) k (slice_get es)) (put (suc (suc k)) j (put (suc k) x (put k (closed (under i k) ρ) ρ))) (record s { entered = suc s.entered }) st
      (begins es k (by_call m G H) types c (blocks i es (a_block (by_call m G H) types c) o g) n)
      (called_slots L (world_of m) k ρ (slice_get es) G H (closed (under i k) ρ) x j st h (record { block = a_block (by_call m G H) types c; at = g; environment = es; known = o; count = n; stands = st; is = refl; filled = h }) (subst (λ X. In L x (of X)) q.0 dx) (subst (λ X. In L j (takes (of X))) q.1 dj)) t

  enter_runs : (L : CellTypes) (s : Site) (f x : Value) (T : SlotType) → In L f (takes T) → In L x T → SiteFits (ClosureFits B M) no_setting L u s → Runs L s (entered_by B f x)
  enter_runs L s (closed (under i k) ρ) x T d dx t =
      subst (λ o. Runs L s (with_block o (enter_block i k ρ x))) (sym d.at)
      (entered_runs L s i k ρ x T d.block.entry d.block.environment d.block.code d.environment d.known d.at d.count d.stands d.is d.filled dx t)
  enter_runs L s (atom f) x T d dx t = let q : takes T ≡ of d.0 = d.1 in absurd (cc)
  enter_runs L s (wrap (left X) a) x T d dx t = let q : takes T ≡ of (sum d.0 d.1) = d.2 in absurd (cc)
  enter_runs L s (wrap (right X) a) x T d dx t = let q : takes T ≡ of (sum d.0 d.1) = d.2 in absurd (cc)
  enter_runs L s (wrap (held v) a) x T d dx t = let q : takes T ≡ of (at d.0 v) = d.1 in absurd (cc)
  enter_runs L s (wrap value.sham a) x T d dx t = let q : takes T ≡ of (sham d.0) = d.1 in absurd (cc)
  enter_runs L s (join pair a b) x T d dx t = let q : takes T ≡ of (product d.0 d.1) = d.2 in absurd (cc)
  enter_runs L s (join cons a b) x T d dx t = let q : takes T ≡ of (list d.0) = d.1 in absurd (cc)

  call_runs : (L : CellTypes) (s : Site) (f x j : Value) (A D : TypeExpression) → In L f (of (function A D)) → In L x (of A) → In L j (takes (of D)) → SiteFits (ClosureFits B M) no_setting L u s → Runs L s (called_by B f x j)
  call_runs L s (closed (under i k) ρ) x j A D d dx dj t =
      subst (λ o. Runs L s (with_block o (call_block i k ρ x j))) (sym d.at)
      (called_runs L s i k ρ x j A D d.block.entry d.block.environment d.block.code d.environment d.known d.at d.count d.stands d.is d.filled dx dj t)
  call_runs L s (atom (leaf_form.Extern p)) x j A D d dx dj t = asked_fits (ClosureFits B M) (closure_laws B M) no_setting L u p A D (record s { entered = suc s.entered }) j x d.3.0 (sym d.3.1 ∙ same d.0 (function A D) (sym d.1)) dx dj t
    where
      same : (A D : TypeExpression) → of A ≡ of D → A ≡ D
      same A D e = cc
  call_runs L s (atom (leaf_form.Glob g)) x j A D d dx dj t = let q = d.3.3 in absurd (none q)
    where
      none : IsKnownAt (no_setting.functions g) u d.0 → ⊥
      none q = elim q [ inl e ↦ (let z = e.1 in cc) | inr e ↦ cc ]
  call_runs L s (atom (leaf_form.Var y)) x j A D d dx dj t = let q = d.2 in absurd (cc)
  call_runs L s (atom (leaf_form.Valid y)) x j A D d dx dj t = let q = d.2 in absurd (cc)
  call_runs L s (atom leaf_form.Here) x j A D d dx dj t = let q = d.2 in absurd (cc)
  call_runs L s (atom leaf_form.Unit) x j A D d dx dj t = let q : of (function A D) ≡ of unit = d.1 ∙ ap of d.3 in absurd (cc)
  call_runs L s (atom (leaf_form.Bool y)) x j A D d dx dj t = let q : of (function A D) ≡ of bool = d.1 ∙ ap of d.3 in absurd (cc)
  call_runs L s (atom (leaf_form.Int y)) x j A D d dx dj t = let q : of (function A D) ≡ of int = d.1 ∙ ap of d.3 in absurd (cc)
  call_runs L s (atom (leaf_form.Str y)) x j A D d dx dj t = let q : of (function A D) ≡ of string = d.1 ∙ ap of d.3.0 in absurd (cc)
  call_runs L s (atom (leaf_form.Addr y)) x j A D d dx dj t = let q : of (function A D) ≡ of (address y) = d.1 ∙ ap of d.3.1 in absurd (cc)
  call_runs L s (atom (leaf_form.Nil y)) x j A D d dx dj t = let q : of (function A D) ≡ of (list y) = d.1 ∙ ap of d.3 in absurd (cc)
  call_runs L s (atom (leaf_form.CellAt y n)) x j A D d dx dj t = let q : of (function A D) ≡ of (cell d.3.0) = d.1 ∙ ap of d.3.4 in absurd (cc)
  call_runs L s (wrap (left X) a) x j A D d dx dj t = let q : of (function A D) ≡ of (sum d.0 d.1) = d.2 in absurd (cc)
  call_runs L s (wrap (right X) a) x j A D d dx dj t = let q : of (function A D) ≡ of (sum d.0 d.1) = d.2 in absurd (cc)
  call_runs L s (wrap (held v) a) x j A D d dx dj t = let q : of (function A D) ≡ of (at d.0 v) = d.1 in absurd (cc)
  call_runs L s (wrap value.sham a) x j A D d dx dj t = let q : of (function A D) ≡ of (sham d.0) = d.1 in absurd (cc)
  call_runs L s (join pair a b) x j A D d dx dj t = let q : of (function A D) ≡ of (product d.0 d.1) = d.2 in absurd (cc)
  call_runs L s (join cons a b) x j A D d dx dj t = let q : of (function A D) ≡ of (list d.0) = d.1 in absurd (cc)

  pub thread_runs : (L : CellTypes) (s : Site) (th : Thread) → ThreadFits (ClosureFits B M) no_setting L u th → SiteFits (ClosureFits B M) no_setting L u s → Runs L s (resolved B th)
  thread_runs L s (enter k x) d t = enter_runs L s k x d.0 d.1 d.2 t
  thread_runs L s (call f x k) d t = call_runs L s f x k d.0 d.1 d.2 d.3 d.4 t
