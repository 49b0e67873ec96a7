-- A typed site goes on to a typed site or a typed ask, and each lawful answer makes a typed site.
use Rattle.std.proofs.Common.{◌≡◌, ◌≢◌, ◌⊎◌, inl, inr, ℕ, zero, suc, Bool, true, false, if◌then◌else◌, List, [], ◌∷◌, ◌++◌, slice_get, Option, Some, refl, sym, ap, subst, ◌∙◌}
use Rattle.std.specs.List.{AllByRecursion as Each}
use Rattle.m5_terms.specs.TypeExpression.{TypeExpression, unit, bool, int, string, address, product, sum, function, list, cell, sham, at}
use Rattle.m5_terms.specs.Text.{IsText}
use Rattle.m5_terms.specs.Machine.{asks}
use Rattle.m5_terms.specs.declared.ask.AskOf.TheVariants as query
use Rattle.m5_terms.specs.declared.ask.AnswerOf.TheVariants as answer
use Rattle.m5_terms.specs.declared.types.World.{World}
use Rattle.m5_terms.specs.declared.types.World.TheVariants.{Home, Server, Panel, Any}
use Rattle.m5_terms.specs.declared.form.LeafForm.TheVariants as leaf_form
use Rattle.m5_terms.proofs.Lists.{each-append}
use Rattle.m5_typing.specs.Context.{Bound, local, valid, Setting, CellTypes, IsKnownAt}
use Rattle.m5_typing.specs.Program.{bound_at}
use Rattle.m5_cps.specs.Entries.{SlotType, of, takes, only, everywhere, Entry, by_value, by_call, world_of, entry_mode, entry_filled}
use Rattle.m5_cps.specs.Blocks.{Block, Blocks}
use Rattle.m5_cps.specs.Values.{left, right, held, pair, cons, Value, atom, wrap, join, closed, Thread, enter, call, Item, thread, raw, Site, SiteNext, unit_value, text_value, put, put_all, filled_by}
use Rattle.m5_cps.specs.Values as value
use Rattle.m5_cps.specs.Deeds.{Ran, makes, ends, stops_full}
use Rattle.m5_cps.specs.Asks.{handler_thread, handler_threads, after_take}
use Rattle.m5_cps.specs.Slots.{Slots, no_slots, fill, entry_slots, entered_at}
use Rattle.m5_cps.specs.Fits.{Fits}
use Rattle.m5_cps_typing.specs.States.{SlotsFit, Stands, ValueFits, ThreadFits, HandlerFits, SiteFits, AnswersFit, NextFits, RanFits}
use Rattle.m5_cps.specs.Captured.{Closure, over, value_units}
use Rattle.m5_cps.specs.Running.{Entered, no_values, entered_by, declared_block, called_by, resolved, started, finish, front, ran, last, site_next}
use Rattle.m5_cps_typing.specs.Closures.{ClosureFits}
use Rattle.m5_cps_typing.proofs.Worlds.{Env, holds_here, slots_put}
use Rattle.m5_cps_typing.proofs.Deeds.{at_once, stop_fits, site_grown}
use Rattle.m5_cps_typing.proofs.Asked.{asked_fits}
use Rattle.m5_cps.specs.Machine.{opening_site, opening_threads}
use Rattle.m5_cps.specs.Program.{entry_bound, block_bound, setting_of, IsFunction, IsFunctionBlock, IsProgram}
use Rattle.m5_cps_typing.proofs.Runs.{closure_laws, run_fits}

-- a declared function's block, where it is declared
record DeclaredFits (F : Setting) (b : Bound) (c : Block) : Type 0 where
  world : World
  argument : TypeExpression
  result : TypeExpression
  is : b ≡ bound_at world (function argument result)
  fits : Fits F world 3 (entry_slots (by_call (only world) argument result) 0 no_slots) c.code

-- each declared function has such a block
abbrev BlocksFit : Setting → Blocks → Type 0
BlocksFit F B = (f : ℕ) (b : Bound) → F.functions f ≡ Some b → (c : Block) × (slice_get B.functions f ≡ Some c) × DeclaredFits F b c

declared_fits : (F : Setting) (b : Bound) (c : Block) → IsFunctionBlock F c → entry_bound c.entry ≡ Some b → DeclaredFits F b c
declared_fits F b c h e = by c.entry h.function h.block.fits e
  where
    by : (y : Entry) → IsFunction y → Fits F (world_of (entry_mode y)) (entry_filled y 0) (entry_slots y 0 no_slots) c.code → entry_bound y ≡ Some b → DeclaredFits F b c
    by (by_call (only w) A D) i f e = record { world = w; argument = A; result = D; is = cc; fits = f }
    by (by_call everywhere A D) i f e = absurd i
    by (by_value m T) i f e = absurd i

listed : (F : Setting) (bs : List Block) (f : ℕ) (b : Bound) → Each (IsFunctionBlock F) bs → block_bound (slice_get bs f) ≡ Some b → (c : Block) × (slice_get bs f ≡ Some c) × DeclaredFits F b c
listed F [] f b h e = absurd (cc)
listed F (c ∷ bs) zero b h e = (c, refl, declared_fits F b c h.0 e)
listed F (c ∷ bs) (suc f) b h e = listed F bs f b h.1 e

function_is : (A B C D : TypeExpression) → of (function A B) ≡ of (function C D) → (A ≡ C) × (B ≡ D)
function_is A B C D e = (cc, cc)

takes_is : (T U : SlotType) → takes T ≡ takes U → T ≡ U
takes_is T U e = cc

-- a declared function's bound says where its block stands
bound_is : (u w : World) (A T : TypeExpression) (b : Bound) → b ≡ bound_at w T → (b ≡ local u A) ⊎ (b ≡ valid A) → Stands u w × (T ≡ A)
bound_is u Home A T b e (inl f) = let q : local Home T ≡ local u A = sym e ∙ f in (inl (cc), cc)
bound_is u Server A T b e (inl f) = let q : local Server T ≡ local u A = sym e ∙ f in (inl (cc), cc)
bound_is u Panel A T b e (inl f) = let q : local Panel T ≡ local u A = sym e ∙ f in (inl (cc), cc)
bound_is u Any A T b e (inl f) = let q : valid T ≡ local u A = sym e ∙ f in absurd (cc)
bound_is u Home A T b e (inr f) = let q : local Home T ≡ valid A = sym e ∙ f in absurd (cc)
bound_is u Server A T b e (inr f) = let q : local Server T ≡ valid A = sym e ∙ f in absurd (cc)
bound_is u Panel A T b e (inr f) = let q : local Panel T ≡ valid A = sym e ∙ f in absurd (cc)
bound_is u Any A T b e (inr f) = let q : valid T ≡ valid A = sym e ∙ f in (inr refl, cc)

known_bound : (o : Option Bound) (u : World) (A : TypeExpression) → IsKnownAt o u A → (b : Bound) × (o ≡ Some b) × ((b ≡ local u A) ⊎ (b ≡ valid A))
known_bound o u A (inl e) = (local u A, e.1, inl refl)
known_bound o u A (inr e) = (valid A, e, inr refl)

module _ (F : Setting) (u : World) (site : u ≢ Any) (bare : (w : World) → F.cells w ≡ []) (B : Blocks) (blocks : BlocksFit F B) where
  abbrev Runs : CellTypes → Site Closure → Option Entered → Type 0
  Runs L s e = RanFits (ClosureFits F) F L u (started u s e)

  -- slots of a block that is entered with a value
  entered_slots : (L : CellTypes) (b : World) (n : ℕ) (ρ : ℕ → Value Closure) (S : Slots) (C T : SlotType) (a x : Value Closure) → Stands u b → SlotsFit (Env (ClosureFits F) (closure_laws F) F L ρ) u S → ValueFits (ClosureFits F) F L a u C → ValueFits (ClosureFits F) F L x u T → SlotsFit (Env (ClosureFits F) (closure_laws F) F L (put (suc n) x (put n a ρ))) u (entered_at b n C T S)
  entered_slots L b n ρ S C T a x st h da dx = slots_put (ClosureFits F) (closure_laws F) F L (put n a ρ) u (fill n (only b) C S) (suc n) (only b) T x (slots_put (ClosureFits F) (closure_laws F) F L ρ u S n (only b) C a h (holds_here (ClosureFits F) (closure_laws F) F L a u b C st da)) (holds_here (ClosureFits F) (closure_laws F) F L x u b T st dx)

  called_slots : (L : CellTypes) (b : World) (n : ℕ) (ρ : ℕ → Value Closure) (S : Slots) (A D : TypeExpression) (a x k : Value Closure) → Stands u b → SlotsFit (Env (ClosureFits F) (closure_laws F) F L ρ) u S → ValueFits (ClosureFits F) F L a u (of (function A D)) → ValueFits (ClosureFits F) F L x u (of A) → ValueFits (ClosureFits F) F L k u (takes (of D)) → SlotsFit (Env (ClosureFits F) (closure_laws F) F L (put (suc (suc n)) k (put (suc n) x (put n a ρ)))) u (entry_slots (by_call (only b) A D) n S)
  called_slots L b n ρ S A D a x k st h da dx dk = slots_put (ClosureFits F) (closure_laws F) F L (put (suc n) x (put n a ρ)) u (entered_at b n (of (function A D)) (of A) S) (suc (suc n)) (only b) (takes (of D)) k (entered_slots L b n ρ S (of (function A D)) (of A) a x st h da dx) (holds_here (ClosureFits F) (closure_laws F) F L k u b (takes (of D)) st dk)

  enter_runs : (L : CellTypes) (s : Site Closure) (k x : Value Closure) (T : SlotType) → ValueFits (ClosureFits F) F L k u (takes T) → ValueFits (ClosureFits F) F L x u T → SiteFits (ClosureFits F) F L u s → Runs L s (entered_by k x)
  enter_runs L s (atom f) x T d dx t = let q : takes T ≡ of d.0 = d.1 in absurd (cc)
  enter_runs L s (wrap (left X) a) x T d dx t = let q : takes T ≡ of (sum d.0 d.1) = d.2 in absurd (cc)
  enter_runs L s (wrap (right X) a) x T d dx t = let q : takes T ≡ of (sum d.0 d.1) = d.2 in absurd (cc)
  enter_runs L s (wrap (held v) a) x T d dx t = let q : takes T ≡ of (at d.0 v) = d.1 in absurd (cc)
  enter_runs L s (wrap value.sham a) x T d dx t = let q : takes T ≡ of (sham d.0) = d.1 in absurd (cc)
  enter_runs L s (join pair a b) x T d dx t = let q : takes T ≡ of (product d.0 d.1) = d.2 in absurd (cc)
  enter_runs L s (join cons a b) x T d dx t = let q : takes T ≡ of (list d.0) = d.1 in absurd (cc)
  enter_runs L s (closed (over y n c) ρ) x T d dx t = by y d
    where
      by : (y : Entry) → ValueFits (ClosureFits F) F L (closed (over y n c) ρ) u (takes T) → Runs L s (entered_by (closed (over y n c) ρ) x)
      by (by_call m A D) d = let e : takes T ≡ of (function A D) = d.is in absurd (cc)
      by (by_value m U) d = run_fits F u site bare c L (world_of m) (suc (suc n)) (entered_at (world_of m) n (takes U) U d.slots) (put (suc n) x (put n (closed (over (by_value m U) n c) ρ) ρ)) (record s { entered = suc s.entered }) d.stands d.fits
          (entered_slots L (world_of m) n ρ d.slots (takes U) U (closed (over (by_value m U) n c) ρ) x d.stands d.filled (subst (ValueFits (ClosureFits F) F L (closed (over (by_value m U) n c) ρ) u) d.is d) (subst (ValueFits (ClosureFits F) F L x u) (takes_is T U d.is) dx)) t

  call_runs : (L : CellTypes) (s : Site Closure) (f x k : Value Closure) (A D : TypeExpression) → ValueFits (ClosureFits F) F L f u (of (function A D)) → ValueFits (ClosureFits F) F L x u (of A) → ValueFits (ClosureFits F) F L k u (takes (of D)) → SiteFits (ClosureFits F) F L u s → Runs L s (called_by B f x k)
  call_runs L s (closed (over y n c) ρ) x k A D d dx dk t = by y d
    where
      by : (y : Entry) → ValueFits (ClosureFits F) F L (closed (over y n c) ρ) u (of (function A D)) → Runs L s (called_by B (closed (over y n c) ρ) x k)
      by (by_value m U) d = let e : of (function A D) ≡ takes U = d.is in absurd (cc)
      by (by_call m G H) d =
          let q = function_is A D G H d.is in
          let f = closed (over (by_call m G H) n c) ρ in
          run_fits F u site bare c L (world_of m) (suc (suc (suc n))) (entry_slots (by_call m G H) n d.slots) (put (suc (suc n)) k (put (suc n) x (put n f ρ))) (record s { entered = suc s.entered }) d.stands d.fits
          (called_slots L (world_of m) n ρ d.slots G H f x k d.stands d.filled (subst (ValueFits (ClosureFits F) F L f u) d.is d) (subst (λ T. ValueFits (ClosureFits F) F L x u (of T)) q.0 dx) (subst (λ T. ValueFits (ClosureFits F) F L k u (takes (of T))) q.1 dk)) t
  call_runs L s (atom (leaf_form.Glob g)) x k A D d dx dk t =
      let o = known_bound (F.functions g) u d.0 d.3.3 in
      let c = blocks g o.0 o.1 in
      declared c.0 c.2 (bound_is u c.2.world d.0 (function c.2.argument c.2.result) o.0 c.2.is o.2) c.1
    where
      declared : {b : Bound} (c : Block) (y : DeclaredFits F b c) → Stands u y.world × (function y.argument y.result ≡ d.0) → slice_get B.functions g ≡ Some c → Runs L s (called_by B (atom (leaf_form.Glob g)) x k)
      declared c y q e =
          let r = function_is A D y.argument y.result (d.1 ∙ ap of (sym q.1)) in
          subst (λ o. Runs L s (declared_block g x k o)) (sym e)
          (run_fits F u site bare c.code L y.world 3 (entry_slots (by_call (only y.world) y.argument y.result) 0 no_slots) (put 2 k (put 1 x (put 0 (atom (leaf_form.Glob g)) no_values))) (record s { entered = suc s.entered }) q.0 y.fits
          (called_slots L y.world 0 no_values no_slots y.argument y.result (atom (leaf_form.Glob g)) x k q.0 (λ l m T e. absurd (cc)) (subst (λ T. ValueFits (ClosureFits F) F L (atom (leaf_form.Glob g)) u (of T)) (sym q.1) (subst (ValueFits (ClosureFits F) F L (atom (leaf_form.Glob g)) u) d.1 d)) (subst (λ T. ValueFits (ClosureFits F) F L x u (of T)) r.0 dx) (subst (λ T. ValueFits (ClosureFits F) F L k u (takes (of T))) r.1 dk)) t)
  call_runs L s (atom (leaf_form.Extern p)) x k A D d dx dk t = asked_fits (ClosureFits F) (closure_laws F) F L u p A D (record s { entered = suc s.entered }) k x d.3.0 (sym d.3.1 ∙ same d.0 (function A D) (sym d.1)) dx dk t
    where
      same : (A B : TypeExpression) → of A ≡ of B → A ≡ B
      same A B e = cc
  call_runs L s (atom (leaf_form.Var y)) x k A D d dx dk t = let q = d.2 in absurd (cc)
  call_runs L s (atom (leaf_form.Valid y)) x k A D d dx dk t = let q = d.2 in absurd (cc)
  call_runs L s (atom leaf_form.Here) x k A D d dx dk t = let q = d.2 in absurd (cc)
  call_runs L s (atom leaf_form.Unit) x k A D d dx dk t = let q : of (function A D) ≡ of unit = d.1 ∙ ap of d.3 in absurd (cc)
  call_runs L s (atom (leaf_form.Bool y)) x k A D d dx dk t = let q : of (function A D) ≡ of bool = d.1 ∙ ap of d.3 in absurd (cc)
  call_runs L s (atom (leaf_form.Int y)) x k A D d dx dk t = let q : of (function A D) ≡ of int = d.1 ∙ ap of d.3 in absurd (cc)
  call_runs L s (atom (leaf_form.Str y)) x k A D d dx dk t = let q : of (function A D) ≡ of string = d.1 ∙ ap of d.3.0 in absurd (cc)
  call_runs L s (atom (leaf_form.Addr y)) x k A D d dx dk t = let q : of (function A D) ≡ of (address y) = d.1 ∙ ap of d.3.1 in absurd (cc)
  call_runs L s (atom (leaf_form.Nil y)) x k A D d dx dk t = let q : of (function A D) ≡ of (list y) = d.1 ∙ ap of d.3 in absurd (cc)
  call_runs L s (atom (leaf_form.CellAt y n)) x k A D d dx dk t = let q : of (function A D) ≡ of (cell d.3.0) = d.1 ∙ ap of d.3.4 in absurd (cc)
  call_runs L s (wrap (left X) a) x k A D d dx dk t = let q : of (function A D) ≡ of (sum d.0 d.1) = d.2 in absurd (cc)
  call_runs L s (wrap (right X) a) x k A D d dx dk t = let q : of (function A D) ≡ of (sum d.0 d.1) = d.2 in absurd (cc)
  call_runs L s (wrap (held v) a) x k A D d dx dk t = let q : of (function A D) ≡ of (at d.0 v) = d.1 in absurd (cc)
  call_runs L s (wrap value.sham a) x k A D d dx dk t = let q : of (function A D) ≡ of (sham d.0) = d.1 in absurd (cc)
  call_runs L s (join pair a b) x k A D d dx dk t = let q : of (function A D) ≡ of (product d.0 d.1) = d.2 in absurd (cc)
  call_runs L s (join cons a b) x k A D d dx dk t = let q : of (function A D) ≡ of (list d.0) = d.1 in absurd (cc)

  thread_runs : (L : CellTypes) (s : Site Closure) (th : Thread Closure) → ThreadFits (ClosureFits F) F L u th → SiteFits (ClosureFits F) F L u s → Runs L s (resolved B th)
  thread_runs L s (enter k x) d t = enter_runs L s k x d.0 d.1 d.2 t
  thread_runs L s (call f x k) d t = call_runs L s f x k d.0 d.1 d.2 d.3 d.4 t

  finish_fits : (L : CellTypes) → ValueFits (ClosureFits F) F L finish u (takes (of unit))
  finish_fits L = record { slots = no_slots; stands = inr refl; fits = tt; is = refl; filled = λ l m T e. absurd (cc) }

  handler_fits : (L : CellTypes) (hs : List (Value Closure)) (i : ℕ) (t : List ℕ) → IsText t → Each (HandlerFits (ClosureFits F) F L u) hs → Each (ThreadFits (ClosureFits F) F L u) (handler_thread finish t (slice_get hs i))
  handler_fits L [] i t x h = tt
  handler_fits L (a ∷ hs) zero t x h = ((string, unit, h.0, (string, refl, refl, (refl, x)), finish_fits L), tt)
  handler_fits L (a ∷ hs) (suc i) t x h = handler_fits L hs i t x h.1

  handlers_fit : (L : CellTypes) (s : Site Closure) (is : List ℕ) (t : List ℕ) → IsText t → Each (HandlerFits (ClosureFits F) F L u) s.handlers → Each (ThreadFits (ClosureFits F) F L u) (handler_threads finish s is t)
  handlers_fit L s [] t x h = tt
  handlers_fit L s (i ∷ is) t x h = each-append (ThreadFits (ClosureFits F) F L u) (handler_thread finish t (slice_get s.handlers i)) (handler_threads finish s is t) (handler_fits L s.handlers i t x h) (handlers_fit L s is t x h)

  more_threads : (L : CellTypes) (s : Site Closure) (ths : List (Thread Closure)) → Each (ThreadFits (ClosureFits F) F L u) ths → SiteFits (ClosureFits F) F L u s → SiteFits (ClosureFits F) F L u (record s { threads = s.threads ++ ths })
  more_threads L s ths h t = (each-append (ThreadFits (ClosureFits F) F L u) s.threads ths t.0 h, t.1, t.2)

  take_fits : (L : CellTypes) (s : Site Closure) → SiteFits (ClosureFits F) F L u s → AnswersFit (ClosureFits F) F L u query.Take (after_take value_units finish s)
  take_fits L s t M (answer.Message v (thread th)) g same a f = (_, refl, more_threads M s (th ∷ []) (f, tt) (site_grown (ClosureFits F) (closure_laws F) F u L M g same s t))
  take_fits L s t M (answer.Message v (raw bytes)) g same a f = (s, refl, site_grown (ClosureFits F) (closure_laws F) F u L M g same s t)
  take_fits L s t M (answer.Fired e i x) g same a f = let q = site_grown (ClosureFits F) (closure_laws F) F u L M g same s t in (_, refl, more_threads M s (handler_threads finish s (i ∷ []) x) (handlers_fit M s (i ∷ []) x f.1 q.2) q)
  take_fits L s t M (answer.Event e is x) g same a f = let q = site_grown (ClosureFits F) (closure_laws F) F u L M g same s t in (_, refl, more_threads M s (handler_threads finish s is x) (handlers_fit M s is x f.1 q.2) q)
  take_fits L s t M _ g same a f = absurd a

  front_fits : (L : CellTypes) (s : Site Closure) (ths : List (Thread Closure)) → Each (ThreadFits (ClosureFits F) F L u) ths → SiteFits (ClosureFits F) F L u (record s { threads = [] }) → SiteFits (ClosureFits F) F L u s → RanFits (ClosureFits F) F L u (front B u s ths)
  front_fits L s [] h e t = at_once (ClosureFits F) (closure_laws F) F u L (asks query.Take (after_take value_units finish s)) (tt, take_fits L s t)
  front_fits L s (th ∷ ths) h e t = thread_runs L (record s { threads = ths }) th h.0 (h.1, t.1, t.2)

  ran_fits : (L : CellTypes) (s : Site Closure) → SiteFits (ClosureFits F) F L u s → RanFits (ClosureFits F) F L u (ran B u s)
  ran_fits L s t = by s.stopped
    where
      by : (b : Bool) → RanFits (ClosureFits F) F L u (if b then stops_full s else front B u s s.threads)
      by true = stop_fits (ClosureFits F) (closure_laws F) F u L s t
      by false = front_fits L s s.threads t.0 (tt, t.1, t.2) t

  last_fits : (L : CellTypes) (r : Ran Closure) → RanFits (ClosureFits F) F L u r → NextFits (ClosureFits F) F L u (last r)
  last_fits L (makes p r) h = last_fits L r h
  last_fits L (ends x) h = h

  -- the preservation law of the blocks' machine
  next_fits : (L : CellTypes) (s : Site Closure) → SiteFits (ClosureFits F) F L u s → NextFits (ClosureFits F) F L u (site_next B u s)
  next_fits L s t = last_fits L (ran B u s) (ran_fits L s t)

-- of a program's blocks
pub blocks_go_on : (B : Blocks) (L : CellTypes) (u : World) (s : Site Closure) → IsProgram B → u ≢ Any → SiteFits (ClosureFits (setting_of B)) (setting_of B) L u s → NextFits (ClosureFits (setting_of B)) (setting_of B) L u (site_next B u s)
blocks_go_on B L u s d r t = next_fits (setting_of B) u r (λ w. refl) B (λ f b e. listed (setting_of B) B.functions f b d.functions e) L s t

pub opening_fits : (B : Blocks) (u : World) → IsProgram B → u ≢ Any → SiteFits (ClosureFits (setting_of B)) (setting_of B) (λ w. []) u (opening_site (opening_threads B u))
opening_fits B Home d r =
    (((of unit, record { slots = no_slots; stands = inl refl; fits = d.main.fits; is = refl; filled = λ l m T e. absurd (cc) }, (unit, refl, refl, refl)), tt), tt, tt)
opening_fits B Server d r = (tt, tt, tt)
opening_fits B Panel d r = (tt, tt, tt)
opening_fits B Any d r = absurd (r refl)
