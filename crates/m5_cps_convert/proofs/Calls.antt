-- Continuations that get a slot, and calls.
use Rattle.std.proofs.Common.{◌≡◌, ℕ, suc, ◌+◌, ◌*◌, ◌≤◌, inl, inr, List, ◌∷◌, Option, Some, None, refl, sym, ap, subst, arith, slice_get}
use Rattle.m5_terms.specs.Machine.{goes}
use Rattle.m5_terms.specs.Expression.{Expression, leaf, binary}
use Rattle.m5_terms.specs.Worlds.{IsSiteWorld}
use Rattle.m5_terms.specs.declared.types.World.{World}
use Rattle.m5_terms.specs.declared.types.Primitive.{Primitive}
use Rattle.m5_terms.specs.declared.thread.Frame.{Frame}
use Rattle.m5_terms.specs.declared.thread.Frame.TheVariants as frame
use Rattle.m5_terms.specs.declared.thread.Focus.{Focus}
use Rattle.m5_terms.specs.declared.thread.Focus.TheVariants.{Eval, Returned}
use Rattle.m5_terms.specs.declared.form.LeafForm.TheVariants as leaf_form
use Rattle.m5_terms.specs.declared.form.BinaryForm.TheVariants as binary_form
use Rattle.m5_typing.specs.declared.functions.Function.{Function}
use Rattle.m5_meaning.specs.Site.{Program}
use Rattle.m5_meaning.specs.Site as meaning
use Rattle.m5_meaning.specs.Step.{step_weight, thread_of, outcome}
use Rattle.m5_meaning.specs.Step as meaning_step
use Rattle.m5_meaning.specs.Reduction as reduction
use Rattle.m5_cps.specs.Entries.{SlotType, Mode, by_value, by_call}
use Rattle.m5_cps.specs.Blocks.{Code, closure}
use Rattle.m5_cps.specs.Values.{Wrap, Join, atom, wrap, join, closed, enter, put}
use Rattle.m5_cps.specs.Values as value
use Rattle.m5_cps.specs.Units.{closure_units}
use Rattle.m5_cps.specs.Deeds.{Ran, ends, taking}
use Rattle.m5_cps.specs.Captured.{Closure, over, Value, Thread, Site, captured}
use Rattle.m5_cps.specs.Running.{run}
use Rattle.m5_cps_convert.specs.Scopes.{Scope}
use Rattle.m5_cps_convert.specs.Continuations.{reify}
use Rattle.m5_cps_convert.specs.Statics.{Static, STop, STail, SBack, SHome, SFirst, SSecond, SArgument, kont, Works}
use Rattle.m5_cps_convert.specs.Slots.{SVal, SKont, Has, Frames}
use Rattle.m5_cps_convert.specs.Narrow.{Narrow}
use Rattle.m5_cps_convert.specs.Reading.{setting, Reads}
use Rattle.m5_cps_convert.specs.Threads.{IsEntered, ReadsThread, ReadsState}
use Rattle.m5_meaning.specs.Reduction.{called, called_extern, called_function}
use Rattle.m5_cps.specs.Asks.{calls, asked}
use Rattle.m5_cps_convert.proofs.Slots.{In, Grows, grows_not, put_grows, put_has, has_on}
use Rattle.m5_cps_convert.proofs.Meets.{W, rest, src, ticked, Tied, step_pays, lent, Meets, Resumes}
use Rattle.m5_cps_convert.proofs.Weights.{least}
use Rattle.m5_cps_convert.proofs.Straight.{object_made}
use Rattle.m5_cps_convert.proofs.Heads.{Head, atoms, fns, recs, head_of}
use Rattle.m5_cps_convert.proofs.Parts.{stands_here}

module _ (P : Program) (u : World) (site : IsSiteWorld u) where
  -- what is lent for one closure, at most
  abbrev pub closure_room : ℕ
  closure_room = 2 + W P

  -- a continuation gets a slot, unless it has one
  abbrev pub Continues : Static → List Frame → ℕ → (ℕ → Value) → (ℕ → ℕ → Code) → Site → meaning.Site → List Frame → Focus → Type 0
  Continues K fs n ρ g t s fs0 f0 = (l m : ℕ) (σ : ℕ → Value) (t1 : Site) → Grows (In P ρ) n (In P σ) m → Has (In P σ) m l (SKont u fs) → Tied P u 1 closure_room t1 s → Narrow (W P) (g l m) m → Meets P u (run u (g l m) m σ t1) (src s fs0 f0)

  module _ (mode : Mode) (T : SlotType) where
    abbrev pub in_closure : Static → ℕ → (ℕ → ℕ → Code) → Code
    in_closure K n g = closure (by_value mode T) (rest P K (suc n) (suc (suc n))) (g n (suc n))

    made : (K : Static) → Works K → (n : ℕ) (ρ : ℕ → Value) (fs : List Frame) (g : ℕ → ℕ → Code) (t : Site) (s : meaning.Site) (fs0 : List Frame) (f0 : Focus) → Tied P u 1 0 t s → Frames u (In P ρ) n K fs → Narrow (W P) (in_closure K n g) n → Continues K fs n ρ g t s fs0 f0 → Meets P u (run u (in_closure K n g) n ρ t) (src s fs0 f0)
    made K wk n ρ fs g t s fs0 f0 h fr nr k =
        let c : Value = closed (over (by_value mode T) n (rest P K (suc n) (suc (suc n)))) ρ in
        object_made P u site 1 0 0 (closure_units (captured n (rest P K (suc n) (suc (suc n))))) t s fs0 f0 _ h (least P u (src s fs0 f0)) (omega (arith, nr.0)) (λ t1 h1. k n (suc n) (put n c ρ) t1 (put_grows P ρ n c) (put_has P ρ n c (SKont u fs) (record { narrow = nr.1; static = K; works = wk; code = refl; frames = fr })) (lent closure_room h1 (omega (arith, nr.0))) nr.2)

    pub reified : (K : Static) (n : ℕ) (ρ : ℕ → Value) (fs : List Frame) (g : ℕ → ℕ → Code) (t : Site) (s : meaning.Site) (fs0 : List Frame) (f0 : Focus) → Tied P u 1 0 t s → Frames u (In P ρ) n K fs → Narrow (W P) (reify (by_value mode T) (kont (setting P) K) n g) n → Continues K fs n ρ g t s fs0 f0 → Meets P u (run u (reify (by_value mode T) (kont (setting P) K) n g) n ρ t) (src s fs0 f0)
    reified (STail j) n ρ fs g t s fs0 f0 h fr nr k = k j n ρ t (grows_not (In P ρ) n) fr (lent closure_room h (omega arith)) nr
    reified STop n ρ fs g t s fs0 f0 h fr nr k = made STop (record {}) n ρ fs g t s fs0 f0 h fr nr k
    reified (SBack a j) n ρ fs g t s fs0 f0 h fr nr k = made (SBack a j) (record {}) n ρ fs g t s fs0 f0 h fr nr k
    reified (SHome w j) n ρ fs g t s fs0 f0 h fr nr k = made (SHome w j) (record {}) n ρ fs g t s fs0 f0 h fr nr k
    reified (SFirst Γ e K) n ρ fs g t s fs0 f0 h fr nr k = made (SFirst Γ e K) (record {}) n ρ fs g t s fs0 f0 h fr nr k
    reified (SSecond Γ e x K) n ρ fs g t s fs0 f0 h fr nr k = made (SSecond Γ e x K) (record {}) n ρ fs g t s fs0 f0 h fr nr k
    reified (SArgument Γ p b K) n ρ fs g t s fs0 f0 h fr nr k = made (SArgument Γ p b K) (record {}) n ρ fs g t s fs0 f0 h fr nr k

  -- the site with a new front thread
  pub front_reads : (th : Thread) (t : Site) (s : meaning.Site) (fs : List Frame) (f : Focus) → Tied P u 0 0 t s → ReadsThread P u th (thread_of fs f) → ReadsState P u (record t { threads = th ∷ t.threads }) (src s fs f)
  front_reads th t s fs f h r = inl (record { runs = h.runs; source_runs = h.source_runs; threads = (r, h.threads); cells = h.cells; handlers = h.handlers; steps = omega (arith, h.entered); units = omega (arith, h.units) })

  -- where the source stands before a call
  abbrev pub Before : meaning.Site → List Frame → World → Expression → Expression → World → Expression → meaning.Site
  Before s fs x f b w v = src s (frame.Part x (binary binary_form.Call f b) 1 ∷ fs) (Returned w v)

  abbrev makes_array : Value → Value → Value → Site → Ran Closure
  makes_array c d k s1 = ends (goes (record s1 { threads = value.call c d k ∷ s1.threads }))

  array_made : (c d k : Value) (f b v : Expression) (t : Site) (s : meaning.Site) (fs : List Frame) (x w : World) → IsEntered c → Reads P c (SVal f) → Reads P d (SVal v) → Reads P k (SKont u fs) → x ≡ u → 2 ≤ W P → Tied P u 1 closure_room t s → (body : Expression) → called P f v ≡ reduction.goes_on body → Meets P u (taking 3 t (makes_array c d k)) (Before s fs x f b w v)
  array_made c d k f b v t s fs x w ent rc rd rk e wide h body is =
      let at : meaning_step.site_next P u (Before s fs x f b w v) ≡ goes (src (ticked P 0 s) fs (Eval x body)) = ap (outcome P u (Before s fs x f b w v) s.threads fs x) is in
      object_made P u site 1 closure_room 0 3 t s (frame.Part x (binary binary_form.Call f b) 1 ∷ fs) (Returned w v) (makes_array c d k) h (least P u (Before s fs x f b w v)) (omega (arith, wide))
      (λ t1 h1. inr (record { steps = 1; at = src (ticked P 0 s) fs (Eval x body); comes = (src (ticked P 0 s) fs (Eval x body), at, refl); reads = front_reads (value.call c d k) t1 (ticked P 0 s) fs (Eval x body) (step_pays 0 h1 (omega (arith, wide))) (inl (record { frames = fs; function = f; result = v; body = body; called = rc; entered = ent; argument = rd; continuation = rk; put_in = is; is = ap (λ y. thread_of fs (Eval y body)) e })) }))

  array_wrong : (c d k : Value) (f b v : Expression) (t : Site) (s : meaning.Site) (fs : List Frame) (x w : World) → called P f v ≡ reduction.wrong → 2 ≤ W P → Tied P u 1 closure_room t s → Meets P u (taking 3 t (makes_array c d k)) (Before s fs x f b w v)
  array_wrong c d k f b v t s fs x w q wide h =
      object_made P u site 1 closure_room 0 3 t s (frame.Part x (binary binary_form.Call f b) 1 ∷ fs) (Returned w v) (makes_array c d k) h (least P u (Before s fs x f b w v)) (omega (arith, wide))
      (λ t1 h1. inl (record { steps = 0; at = Before s fs x f b w v; comes = refl; stuck = ap (outcome P u (Before s fs x f b w v) s.threads fs x) q }))

  -- what a primitive's ask owes where the source is about to make the same
  abbrev pub AsksMeet : Primitive → Type 0
  AsksMeet p = (d k : Value) (b v : Expression) (t : Site) (s : meaning.Site) (fs : List Frame) (x w : World) → Reads P d (SVal v) → Reads P k (SKont u fs) → x ≡ u → (c : ℕ) → c + 4 ≤ 4 * step_weight P 0 → Tied P u 1 c t s → Meets P u (asked t k p d) (Before s fs x (leaf (leaf_form.Extern p)) b w v)

  module _ (ps : (p : Primitive) → AsksMeet p) (d k : Value) (b v : Expression) (t : Site) (s : meaning.Site) (fs : List Frame) (x w : World) (rd : Reads P d (SVal v)) (rk : Reads P k (SKont u fs)) (e : x ≡ u) (wide : 2 ≤ W P) (h : Tied P u 1 closure_room t s) where
    -- a function is called
    head_called : {c : Value} {f : Expression} → Head P c f → Reads P c (SVal f) → Meets P u (calls c d k t) (Before s fs x f b w v)
    head_called (atoms (leaf_form.Extern p) i) r = ps p d k b v t s fs x w rd rk e closure_room (omega (arith, wide)) h
    head_called (atoms (leaf_form.Glob g) i) r = at (slice_get P.functions g) refl
      where
        at : (o : Option Function) → slice_get P.functions g ≡ o → Meets P u (calls (atom (leaf_form.Glob g)) d k t) (Before s fs x (leaf (leaf_form.Glob g)) b w v)
        at None q = array_wrong (atom (leaf_form.Glob g)) d k (leaf (leaf_form.Glob g)) b v t s fs x w (ap (λ o. called_function o v) q) wide h
        at (Some fn) q = array_made (atom (leaf_form.Glob g)) d k (leaf (leaf_form.Glob g)) b v t s fs x w (record {}) r rd rk e wide h _ (ap (λ o. called_function o v) q)
    head_called (fns m A B n c ρ y T body i) r = array_made (closed (over (by_call m A B) n c) ρ) d k _ b v t s fs x w (record {}) r rd rk e wide h _ refl
    head_called (recs m A B n c ρ g y T R body i) r = array_made (closed (over (by_call m A B) n c) ρ) d k _ b v t s fs x w (record {}) r rd rk e wide h _ refl
    head_called {c} {f} _ r = array_wrong c d k f b v t s fs x w refl wide h

    pub calls_meet : (c : Value) (f : Expression) → Reads P c (SVal f) → Meets P u (calls c d k t) (Before s fs x f b w v)
    calls_meet c f r = head_called (head_of P c f r) r

  pub call_done : ((p : Primitive) → AsksMeet p) → (a b : Expression) (K : Static) → Resumes P u K → (Γ : Scope) (x : ℕ) → Resumes P u (SSecond Γ (binary binary_form.Call a b) x K)
  call_done ps a b K rs Γ x = record {
    by = λ t s n ρ fs w y v fr has h nr.
        subst (λ z. Meets P u (run u (rest P (SSecond Γ (binary binary_form.Call a b) x K) y n) n ρ t) (src s z (Returned w v))) (sym fr.is)
        (reified _ _ K n ρ fr.below _ t s _ (Returned w v) h fr.rest nr (λ l m σ t1 gr hl h1 n1.
        calls_meet ps (σ y) (σ l) _ v t1 s fr.below fr.world w (has_on y (SVal v) gr has).1 hl.1 (stands_here u fr.world (binary binary_form.Call a b) refl fr.stands) n1 h1 (σ x) fr.first (has_on x (SVal fr.first) gr fr.has).1));
  }
