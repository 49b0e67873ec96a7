-- Threads that begin: spawned, for an event's handlers, and from a message.
use Rattle.std.proofs.Common.{◌≡◌, ℕ, suc, ◌+◌, ◌*◌, ◌≤◌, inl, inr, List, [], ◌∷◌, ◌++◌, length, Option, Some, None, Bool, true, false, refl, sym, ap, ◌∙◌, subst, arith, if◌then◌else◌, nat_le, slice_get, sum_by}
use Rattle.std.proofs.lemmas.List.Sums.{sum_by-cons}
use Rattle.m5_terms.specs.Machine.{goes, asks}
use Rattle.m5_terms.specs.Related.{AnswerReads}
use Rattle.m5_terms.specs.TypeExpression.{TypeExpression}
use Rattle.m5_terms.specs.TypeExpression as type
use Rattle.m5_terms.specs.Expression.{Expression, leaf, unary, binary, ternary}
use Rattle.m5_terms.specs.Worlds.{IsSiteWorld}
use Rattle.m5_terms.specs.declared.ask.AskOf.TheVariants as query
use Rattle.m5_terms.specs.declared.ask.AnswerOf.{AnswerOf}
use Rattle.m5_terms.specs.declared.ask.AnswerOf.TheVariants as answer
use Rattle.m5_terms.specs.declared.types.World.{World}
use Rattle.m5_terms.specs.declared.thread.Frame.{Frame}
use Rattle.m5_terms.specs.declared.thread.Focus.TheVariants.{Eval, Returned}
use Rattle.m5_terms.specs.declared.form.LeafForm.TheVariants as leaf_form
use Rattle.m5_terms.specs.declared.form.UnaryForm.TheVariants as unary_form
use Rattle.m5_terms.specs.declared.form.BinaryForm.TheVariants as binary_form
use Rattle.m5_meaning.specs.Site.{Program}
use Rattle.m5_meaning.specs.Site as meaning
use Rattle.m5_meaning.specs.Step.{step_weight, thread_of, outcome}
use Rattle.m5_meaning.specs.Step as meaning_step
use Rattle.m5_cps.specs.Entries.{of, by_value}
use Rattle.m5_cps.specs.Blocks.{Code}
use Rattle.m5_cps.specs.Values.{Wrap, Join, atom, wrap, join, closed, enter, put}
use Rattle.m5_cps.specs.Values as value
use Rattle.m5_cps.specs.Units.{closure_units, thread_units, begun_units}
use Rattle.m5_cps.specs.Deeds.{Ran, ends, stops_full, spawned}
use Rattle.m5_cps.specs.Captured.{Closure, over, Value, Thread, Item, Site, captured, value_units}
use Rattle.m5_cps.specs.Running.{run, finish}
use Rattle.m5_cps_convert.specs.Scopes.{Scope, in_block}
use Rattle.m5_cps_convert.specs.Continuations.{start_code}
use Rattle.m5_cps_convert.specs.Convert.{cps}
use Rattle.m5_cps_convert.specs.Closing.{Values, close}
use Rattle.m5_cps_convert.specs.Proper.{Proper}
use Rattle.m5_cps_convert.specs.Statics.{Static, STop}
use Rattle.m5_cps_convert.specs.Slots.{SKont, SStart, Fits, Frames}
use Rattle.m5_cps_convert.specs.Narrow.{Narrow}
use Rattle.m5_cps_convert.specs.Reading.{setting, Reads}
use Rattle.m5_cps_convert.specs.Threads.{ReadsThreads, ReadsValues, ReadsItem, ReadsState}
use Rattle.m5_terms.specs.Size.{node_size}
use Rattle.m5_meaning.specs.Reduction.{unit_value, text_value}
use Rattle.m5_cps.specs.Asks.{handler_thread, handler_threads, begun, begun_by, after_take}
use Rattle.m5_cps_convert.proofs.Slots.{In, put_grows, put_has, frames_on}
use Rattle.m5_cps_convert.proofs.Meets.{W, rest, src, ticked, Tied, step_pays, lent, Meets, back, Resumes, Evals}
use Rattle.m5_cps_convert.proofs.Weights.{least}
use Rattle.m5_cps_convert.proofs.Straight.{object_made, fills, threads_long}
use Rattle.m5_cps_convert.proofs.Parts.{stands_here}
use Rattle.m5_cps_convert.proofs.Stops.{stops_meet, AtPlace, at_place}
use Rattle.m5_cps_convert.proofs.Ends.{site_reads}

pub threads_append : (P : Program) (u : World) (ts us : List Thread) (ss rs : List meaning.Thread) → ReadsThreads P u ts ss → ReadsThreads P u us rs → ReadsThreads P u (ts ++ us) (ss ++ rs)
threads_append P u [] us [] rs h g = g
threads_append P u [] us (s ∷ ss) rs h g = absurd h
threads_append P u (t ∷ ts) us [] rs h g = absurd h
threads_append P u (t ∷ ts) us (s ∷ ss) rs h g = (h.0, threads_append P u ts us ss rs h.1 g)

size_least : (e : Expression) → 1 ≤ node_size e
size_least (leaf f) = omega arith
size_least (unary f a) = omega arith
size_least (binary f a b) = omega arith
size_least (ternary f a b c) = omega arith

module _ (P : Program) (u : World) (site : IsSiteWorld u) where
  -- a spawned thread goes last, or the queue is full on both sides
  module _ (a : Expression) (K : Static) (rs : Resumes P u K) (t : Site) (s : meaning.Site) (n : ℕ) (ρ : ℕ → Value) (Γ : Scope) (γ : Values) (fs : List Frame) (w : World) (we : w ≡ u) (f : Fits (In P ρ) n Γ γ) (fr : Frames u (In P ρ) n K fs) (p : Proper a) where
    abbrev start : Code
    start = start_code (cps (setting P) a) (in_block Γ.mode Γ) n

    abbrev starts : Value
    starts = closed (over (by_value Γ.mode (of type.unit)) n start) ρ

    abbrev ρ1 : ℕ → Value
    ρ1 = put n starts ρ

    abbrev at : Bool → meaning.Site
    at z = src (record s { stopped = z }) fs (Eval w (unary unary_form.Spawn (close γ a)))

    abbrev more : List meaning.Thread
    more = s.threads ++ thread_of [] (Eval w (close γ a)) ∷ []

    abbrev goes_on : Site → Value → Ran Closure
    goes_on t1 d = run u (rest P K (suc n) (suc (suc n))) (suc (suc n)) (put (suc n) d ρ1) t1

    spawns : Narrow (W P) start (suc (suc n)) → Narrow (W P) (rest P K (suc n) (suc (suc n))) (suc (suc n)) → (t1 : Site) → Tied P u 1 (2 + W P) t1 s → (b : Bool) → nat_le 4096 (suc (length s.threads)) ≡ b → Meets P u (spawned t1 (ρ1 n) goes_on) (at s.stopped)
    spawns na nr t1 h1 true e = subst (λ o. Meets P u (if o then stops_full t1 else goes_on (record t1 { threads = t1.threads ++ enter (ρ1 n) (atom leaf_form.Unit) ∷ [] }) (atom leaf_form.Unit)) (at s.stopped)) (sym (ap (λ l. nat_le 4096 (suc l)) (threads_long P u t1.threads s.threads h1.threads) ∙ e)) (stops_meet P u site t1 (at s.stopped) (λ z. ap (λ o. if o then meaning_step.stops_full (at z) else goes (meaning_step.stepped P 0 (at z) (thread_of fs (Returned w unit_value) ∷ more))) e))
    spawns na nr t1 h1 false e =
        let t2 : Site = record t1 { threads = t1.threads ++ enter (ρ1 n) (atom leaf_form.Unit) ∷ [] } in
        let s2 : meaning.Site = record s { threads = more } in
        let started : Reads P (ρ1 n) (SStart u [] (close γ a)) = (put_has P ρ n starts (SStart u [] (close γ a)) (record { narrow = na; scope = in_block Γ.mode Γ; values = γ; node = a; proper = p; fits = f; static = STop; code = refl; frames = refl; is = refl })).1 in
        let h2 : Tied P u 1 (2 + W P) t2 s2 = record { runs = h1.runs; source_runs = h1.source_runs; threads = threads_append P u t1.threads (enter (ρ1 n) (atom leaf_form.Unit) ∷ []) s.threads (thread_of [] (Eval w (close γ a)) ∷ []) h1.threads (inr (inr (inr (record { frames = []; node = close γ a; start = started; is = ap (λ y. thread_of [] (Eval y (close γ a))) we }))), tt); cells = h1.cells; handlers = h1.handlers; entered = h1.entered; units = h1.units } in
        subst (λ o. Meets P u (if o then stops_full t1 else goes_on t2 (atom leaf_form.Unit)) (at s.stopped)) (sym (ap (λ l. nat_le 4096 (suc l)) (threads_long P u t1.threads s.threads h1.threads) ∙ e))
        (back P u _ (at s.stopped) (src (ticked P 0 s2) fs (Returned w unit_value)) (ap (λ o. if o then meaning_step.stops_full (at s.stopped) else goes (meaning_step.stepped P 0 (at s.stopped) (thread_of fs (Returned w unit_value) ∷ more))) e)
        (fills P u site K rs (atom leaf_form.Unit) unit_value t2 (ticked P 0 s2) (suc n) ρ1 fs w (refl, tt) (frames_on u K fs (put_grows P ρ n starts) fr) (step_pays 0 h2 (omega arith)) nr))

  pub spawn_evals : (a : Expression) → Evals P u (unary unary_form.Spawn a)
  spawn_evals a = record {
    by = λ K rs t s n ρ Γ γ fs w p st f fr h nr.
        let we : w ≡ u = stands_here u w (unary unary_form.Spawn a) refl st in
        object_made P u site 1 0 0 (closure_units (captured n (start_code (cps (setting P) a) (in_block Γ.mode Γ) n))) t s fs (Eval w (unary unary_form.Spawn (close γ a))) _ h (least P u (src s fs (Eval w (unary unary_form.Spawn (close γ a))))) (omega (arith, nr.0)) (λ t1 h1. spawns a K rs t s n ρ Γ γ fs w we f fr p.1 nr.1 nr.2 t1 (lent (2 + W P) h1 (omega (arith, nr.0))) (nat_le 4096 (suc (length s.threads))) refl);
  }

  -- the threads of an event's handlers, and their units
  pub record Began (b : ℕ) (ts : List Thread) (ss : List meaning.Thread) : Type 0 where
    pub reads : ReadsThreads P u ts ss
    pub units : begun_units b ts ≤ 4 * sum_by meaning.thread_size ss

  finishes : Reads P finish (SKont u [])
  finishes = record { narrow = tt; static = STop; works = tt; code = refl; frames = refl }

  one_begins : (x : List ℕ) (c : Option Value) (v : Option Expression) (ts : List Thread) (ss : List meaning.Thread) → AtPlace P c v → Began (length x) ts ss → Began (length x) (handler_thread finish x c ++ ts) (meaning_step.handler_thread u x v ++ ss)
  one_begins x None None ts ss h g = g
  one_begins x None (Some v) ts ss h g = absurd h
  one_begins x (Some c) None ts ss h g = absurd h
  one_begins x (Some c) (Some v) ts ss h g = record {
    reads = (inr (record { handler = v; argument = text_value x; called = h; text = (refl, tt); continuation = finishes; is = refl }), g.reads);
    units = omega (arith, g.units, size_least v, sum_by-cons meaning.thread_size (thread_of [] (Eval u (binary binary_form.Call v (text_value x)))) ss);
  }

  pub handlers_begin : (t : Site) (s : meaning.Site) (is : List ℕ) (x : List ℕ) → ReadsValues P t.handlers s.handlers → Began (length x) (handler_threads finish t is x) (meaning_step.handler_threads u s is x)
  handlers_begin t s [] x h = record { reads = tt; units = omega arith }
  handlers_begin t s (i ∷ is) x h = one_begins x (slice_get t.handlers i) (slice_get s.handlers i) (handler_threads finish t is x) (meaning_step.handler_threads u s is x) (at_place P t.handlers s.handlers i h) (handlers_begin t s is x h)

  begun_reads : (c : ℕ) (t : Site) (s : meaning.Site) (ts : List Thread) (ss : List meaning.Thread) → Tied P u 0 0 t s → ReadsThreads P u ts ss → c ≤ 4 * sum_by meaning.thread_size ss → ReadsState P u (begun t c ts) (meaning_step.begun s ss)
  begun_reads c t s ts ss h r le = inl (record { runs = h.runs; source_runs = h.source_runs; threads = threads_append P u t.threads ts s.threads ss h.threads r; cells = h.cells; handlers = h.handlers; steps = omega (arith, h.entered); units = omega (arith, h.units, le) })

  handlers_reads : (t : Site) (s : meaning.Site) → Tied P u 0 0 t s → (is x : List ℕ) (to : Site) → begun_by finish t is x ≡ Some to → ReadsState P u to (meaning_step.begun s (meaning_step.handler_threads u s is x))
  handlers_reads t s h is x to e =
      let g : Began (length x) (handler_threads finish t is x) (meaning_step.handler_threads u s is x) = handlers_begin t s is x h.handlers in
      let e1 : begun t (begun_units (length x) (handler_threads finish t is x)) (handler_threads finish t is x) ≡ to = cc in
      subst (λ y. ReadsState P u y (meaning_step.begun s (meaning_step.handler_threads u s is x))) e1 (begun_reads _ t s _ _ h g.reads g.units)

  message_reads : (t : Site) (s : meaning.Site) → Tied P u 0 0 t s → (v : World) (i : Item) (j : meaning.Item) → ReadsItem P u i j → (to : Site) → after_take value_units finish t (answer.Message v i) ≡ Some to → (at : meaning.Site) × (meaning_step.after_take u s (answer.Message v j) ≡ Some at) × ReadsState P u to at
  message_reads t s h v (value.thread th) (meaning.thread th1) r to e =
      let e1 : begun t (thread_units value_units th) (th ∷ []) ≡ to = cc in
      (meaning_step.begun s (th1 ∷ []), refl, subst (λ y. ReadsState P u y (meaning_step.begun s (th1 ∷ []))) e1 (begun_reads (thread_units value_units th) t s (th ∷ []) (th1 ∷ []) h (r.0, tt) (omega (arith, r.1))))
  message_reads t s h v (value.raw x) (meaning.raw y) r to e = let e1 : t ≡ to = cc in (s, refl, subst (λ y. ReadsState P u y s) e1 (site_reads P u site t s h))
  message_reads t s h v (value.thread th) (meaning.raw y) r to e = absurd r
  message_reads t s h v (value.raw x) (meaning.thread y) r to e = absurd r

  -- whatever is taken
  taken : (t : Site) (s : meaning.Site) → Tied P u 0 0 t s → (b : AnswerOf Item) (to : Site) (c : AnswerOf meaning.Item) → after_take value_units finish t b ≡ Some to → AnswerReads (ReadsItem P u) b c → (at : meaning.Site) × (meaning_step.after_take u s c ≡ Some at) × ReadsState P u to at
  taken t s h (answer.Message v i) to c e r = let m = message_reads t s h v i r.0 r.1 to e in (m.0, ap (meaning_step.after_take u s) r.2 ∙ m.1, m.2)
  taken t s h (answer.Fired k i x) to c e r = (meaning_step.begun s (meaning_step.handler_threads u s (i ∷ []) x), ap (meaning_step.after_take u s) r, handlers_reads t s h (i ∷ []) x to e)
  taken t s h (answer.Event k is x) to c e r = (meaning_step.begun s (meaning_step.handler_threads u s is x), ap (meaning_step.after_take u s) r, handlers_reads t s h is x to e)
  taken t s h _ to c e r = absurd (cc)

  -- a site without threads looks for something new
  pub looks_up : (t : Site) (s : meaning.Site) → s.threads ≡ [] → Tied P u 0 0 t s → Meets P u (ends (asks query.Take (after_take value_units finish t))) s
  looks_up t s e h = record { steps = 0; waiting = s; comes = refl; ask = query.Take; resume_ = meaning_step.after_take u s; asking = ap (meaning_step.front P u s) e; reads = refl; after = λ b to c e1 r. taken t s h b to c e1 r }
