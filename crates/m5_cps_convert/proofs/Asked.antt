-- Primitives: each asks what the source asks, and goes on with the answer.
use Rattle.std.proofs.Common.{◌≡◌, ℕ, ◌+◌, ◌*◌, ◌≤◌, inl, List, [], ◌∷◌, ◌++◌, length, Some, Bool, true, false, refl, sym, ap, ◌∙◌, subst, arith, if◌then◌else◌, nat_le}
use Rattle.m5_terms.specs.Machine.{asks}
use Rattle.m5_terms.specs.Related.{AskReads, AnswerReads}
use Rattle.m5_terms.specs.TypeExpression.{TypeExpression}
use Rattle.m5_terms.specs.TypeExpression as type
use Rattle.m5_terms.specs.Expression.{Expression, leaf, unary, binary}
use Rattle.m5_terms.specs.Worlds.{IsSiteWorld}
use Rattle.m5_terms.specs.declared.ask.AskOf.{AskOf}
use Rattle.m5_terms.specs.declared.ask.AskOf.TheVariants as query
use Rattle.m5_terms.specs.declared.ask.AnswerOf.{AnswerOf}
use Rattle.m5_terms.specs.declared.ask.AnswerOf.TheVariants as answer
use Rattle.m5_terms.specs.declared.types.World.{World}
use Rattle.m5_terms.specs.declared.types.Primitive.{Primitive}
use Rattle.m5_terms.specs.declared.types.Primitive.TheVariants as primitive
use Rattle.m5_terms.specs.declared.thread.Frame.{Frame}
use Rattle.m5_terms.specs.declared.thread.Focus.TheVariants.{Returned}
use Rattle.m5_terms.specs.declared.form.LeafForm.TheVariants as leaf_form
use Rattle.m5_terms.specs.declared.form.UnaryForm.TheVariants as unary_form
use Rattle.m5_terms.specs.declared.form.BinaryForm.TheVariants as binary_form
use Rattle.m5_meaning.specs.Site.{Program}
use Rattle.m5_meaning.specs.Site as meaning
use Rattle.m5_meaning.specs.Step.{step_weight, thread_of, outcome}
use Rattle.m5_meaning.specs.Step as meaning_step
use Rattle.m5_cps.specs.Values.{Wrap, Join, atom, wrap, join, closed, enter, put}
use Rattle.m5_cps.specs.Values as value
use Rattle.m5_cps.specs.Units.{text_units}
use Rattle.m5_cps.specs.Deeds.{ends, stops_full}
use Rattle.m5_cps.specs.Captured.{Value, Item, Site}
use Rattle.m5_cps_convert.specs.Slots.{SVal, SKont}
use Rattle.m5_cps_convert.specs.Reading.{Reads}
use Rattle.m5_cps_convert.specs.Threads.{ReadsItem, ReadsState}
use Rattle.m5_meaning.specs.Reduction.{unit_or, text_value, unit_value}
use Rattle.m5_cps.specs.Asks.{asked, after_done, after_get_text, after_read, adds_handler}
use Rattle.m5_cps_convert.proofs.Meets.{src, ticked, Tied, tied_by, step_pays, Meets}
use Rattle.m5_cps_convert.proofs.Straight.{values_long}
use Rattle.m5_cps_convert.proofs.Heads.{Head, atoms, pairs, head_of}
use Rattle.m5_cps_convert.proofs.Stops.{stops_meet, values_snoc}
use Rattle.m5_cps_convert.proofs.Calls.{front_reads, Before, AsksMeet}

module _ (P : Program) (u : World) (site : IsSiteWorld u) (k : Value) (b : Expression) (t : Site) (s : meaning.Site) (fs : List Frame) (x w : World) (rk : Reads P k (SKont u fs)) (xe : x ≡ u) (c : ℕ) (wide : c + 4 ≤ 4 * step_weight P 0) (h : Tied P u 1 c t s) where
  abbrev At : Primitive → Expression → meaning.Site
  At p v = Before P u site s fs x (leaf (leaf_form.Extern p)) b w v

  -- the continuation is entered with unit
  done_reads : (t0 : Site) (s1 s0 : meaning.Site) → Tied P u 0 0 t0 (ticked P 0 s1) → meaning_step.after_done P s0 (thread_of fs (Returned x unit_value) ∷ s.threads) answer.Done ≡ Some (src (ticked P 0 s1) fs (Returned x unit_value)) → (a : AnswerOf Item) (to : Site) (r : AnswerOf meaning.Item) → after_done t0 (enter k (atom leaf_form.Unit)) a ≡ Some to → AnswerReads (ReadsItem P u) a r → (at : meaning.Site) × (meaning_step.after_done P s0 (thread_of fs (Returned x unit_value) ∷ s.threads) r ≡ Some at) × ReadsState P u to at
  done_reads t0 s1 s0 g q answer.Done to r e ra =
      let to1 : Site = record t0 { threads = enter k (atom leaf_form.Unit) ∷ t0.threads } in
      let e1 : to1 ≡ to = cc in
      (src (ticked P 0 s1) fs (Returned x unit_value), ap (meaning_step.after_done P s0 (thread_of fs (Returned x unit_value) ∷ s.threads)) ra ∙ q, subst (λ y. ReadsState P u y (src (ticked P 0 s1) fs (Returned x unit_value))) e1 (front_reads P u site (enter k (atom leaf_form.Unit)) t0 (ticked P 0 s1) fs (Returned x unit_value) g (inl (record { frames = fs; world = x; result = unit_value; continuation = rk; argument = (refl, tt); is = refl }))))
  done_reads t0 s1 s0 g q _ to r e ra = absurd (cc)

  -- a primitive that only tells
  tells : (p : Primitive) (v : Expression) (q1 : AskOf Item) (q : AskOf meaning.Item) → AskReads (ReadsItem P) q1 q → meaning_step.site_next P u (At p v) ≡ asks q (meaning_step.after_done P (At p v) (thread_of fs (Returned x unit_value) ∷ s.threads)) → Meets P u (ends (asks q1 (after_done t (enter k (atom leaf_form.Unit))))) (At p v)
  tells p v q1 q reads step = record { steps = 0; waiting = At p v; comes = refl; ask = q; resume_ = meaning_step.after_done P (At p v) (thread_of fs (Returned x unit_value) ∷ s.threads); asking = step; reads = reads; after = λ a to r e ra. done_reads t s (At p v) (step_pays 0 h (omega (arith, wide))) refl a to r e ra }

  -- the continuation is entered with an answer, whose objects take so many units
  answered_reads : (y : List ℕ) (d : ℕ) (a : Value) (v : Expression) → Reads P a (SVal v) → d ≤ 4 * length y + 4 → ReadsState P u (record t { threads = enter k a ∷ t.threads; units = t.units + d }) (src (ticked P (length y) s) fs (Returned x v))
  answered_reads y d a v ra le = front_reads P u site (enter k a) (record t { units = t.units + d }) (ticked P (length y) s) fs (Returned x v) (tied_by 0 0 (t.units + d) (s.steps + 1) (s.weight + step_weight P (length y)) h (omega (arith, h.entered)) (omega (arith, h.units, wide, le))) (inl (record { frames = fs; world = x; result = v; continuation = rk; argument = ra; is = refl }))

  get_text_reads : (v : Expression) (a : AnswerOf Item) (to : Site) (r : AnswerOf meaning.Item) → after_get_text t k a ≡ Some to → AnswerReads (ReadsItem P u) a r → (at : meaning.Site) × (meaning_step.after_get_text P (At primitive.GetText v) s.threads fs x r ≡ Some at) × ReadsState P u to at
  get_text_reads v (answer.Found y) to r e ra =
      let to1 : Site = record t { threads = enter k (atom (leaf_form.Str y)) ∷ t.threads; units = t.units + text_units (length y) } in
      let e1 : to1 ≡ to = cc in
      (src (ticked P (length y) s) fs (Returned x (text_value y)), ap (meaning_step.after_get_text P (At primitive.GetText v) s.threads fs x) ra, subst (λ z. ReadsState P u z (src (ticked P (length y) s) fs (Returned x (text_value y)))) e1 (answered_reads y (text_units (length y)) (atom (leaf_form.Str y)) (text_value y) (refl, tt) (omega arith)))
  get_text_reads v _ to r e ra = absurd (cc)

  read_reads : (v : Expression) (a : AnswerOf Item) (to : Site) (r : AnswerOf meaning.Item) → after_read t k a ≡ Some to → AnswerReads (ReadsItem P u) a r → (at : meaning.Site) × (meaning_step.after_read P (At primitive.Read v) s.threads fs x r ≡ Some at) × ReadsState P u to at
  read_reads v (answer.Found y) to r e ra =
      let v1 : Expression = unary (unary_form.Inr (unit_or type.string)) (text_value y) in
      let a1 : Value = wrap (value.right (unit_or type.string)) (atom (leaf_form.Str y)) in
      let to1 : Site = record t { threads = enter k a1 ∷ t.threads; units = t.units + (text_units (length y) + 3) } in
      let e1 : to1 ≡ to = cc in
      (src (ticked P (length y) s) fs (Returned x v1), ap (meaning_step.after_read P (At primitive.Read v) s.threads fs x) ra, subst (λ z. ReadsState P u z (src (ticked P (length y) s) fs (Returned x v1))) e1 (answered_reads y (text_units (length y) + 3) a1 v1 (text_value y, refl, (refl, tt)) (omega arith)))
  read_reads v answer.Missing to r e ra =
      let v1 : Expression = unary (unary_form.Inl (unit_or type.string)) unit_value in
      let a1 : Value = wrap (value.left (unit_or type.string)) (atom leaf_form.Unit) in
      let to1 : Site = record t { threads = enter k a1 ∷ t.threads; units = t.units + 3 } in
      let e1 : to1 ≡ to = cc in
      (src (ticked P 0 s) fs (Returned x v1), ap (meaning_step.after_read P (At primitive.Read v) s.threads fs x) ra, subst (λ z. ReadsState P u z (src (ticked P 0 s) fs (Returned x v1))) e1 (answered_reads [] 3 a1 v1 (unit_value, refl, (refl, tt)) (omega arith)))
  read_reads v _ to r e ra = absurd (cc)

  -- a handler is added, or its list is full on both sides
  module _ (p : Primitive) (hv : Value) (v hx : Expression) (rh : Reads P hv (SVal hx)) (q1 : ℕ → AskOf Item) (q : ℕ → AskOf meaning.Item) (reads : (i : ℕ) → AskReads (ReadsItem P) (q1 i) (q i))
      (step : (z : Bool) → meaning_step.site_next P u (Before P u site (record s { stopped = z }) fs x (leaf (leaf_form.Extern p)) b w v) ≡ meaning_step.adds_handler P (Before P u site (record s { stopped = z }) fs x (leaf (leaf_form.Extern p)) b w v) s.threads fs x q hx) where
    abbrev s0 : Bool → meaning.Site
    s0 z = Before P u site (record s { stopped = z }) fs x (leaf (leaf_form.Extern p)) b w v

    same : length t.handlers ≡ length s.handlers
    same = values_long P t.handlers s.handlers h.handlers

    abbrev add : meaning.Site
    add = record s { handlers = s.handlers ++ hx ∷ [] }

    abbrev added : Site
    added = record t { handlers = t.handlers ++ hv ∷ [] }

    tied : Tied P u 0 0 added (ticked P 0 add)
    tied = record { runs = h.runs; source_runs = h.source_runs; threads = h.threads; cells = h.cells; handlers = values_snoc P t.handlers s.handlers hv hx h.handlers rh; entered = omega (arith, h.entered); units = omega (arith, h.units, wide) }

    by_room : (f : Bool) → nat_le 4096 (length s.handlers) ≡ f → Meets P u (adds_handler t q1 hv k) (s0 s.stopped)
    by_room true e = subst (λ o. Meets P u (if o then stops_full t else ends (asks (q1 (length t.handlers)) (after_done added (enter k (atom leaf_form.Unit))))) (s0 s.stopped)) (sym (ap (nat_le 4096) same ∙ e)) (stops_meet P u site t (s0 s.stopped) (λ z. step z ∙ ap (λ o. if o then meaning_step.stops_full (s0 z) else asks (q (length s.handlers)) (meaning_step.after_done P (record (s0 z) { handlers = s.handlers ++ hx ∷ [] }) (thread_of fs (Returned x unit_value) ∷ s.threads))) e))
    by_room false e = subst (λ o. Meets P u (if o then stops_full t else ends (asks (q1 (length t.handlers)) (after_done added (enter k (atom leaf_form.Unit))))) (s0 s.stopped)) (sym (ap (nat_le 4096) same ∙ e)) (record { steps = 0; waiting = s0 s.stopped; comes = refl; ask = q (length s.handlers); resume_ = meaning_step.after_done P (record (s0 s.stopped) { handlers = s.handlers ++ hx ∷ [] }) (thread_of fs (Returned x unit_value) ∷ s.threads); asking = step s.stopped ∙ ap (λ o. if o then meaning_step.stops_full (s0 s.stopped) else asks (q (length s.handlers)) (meaning_step.after_done P (record (s0 s.stopped) { handlers = s.handlers ++ hx ∷ [] }) (thread_of fs (Returned x unit_value) ∷ s.threads))) e; reads = subst (λ i. AskReads (ReadsItem P) (q1 i) (q (length s.handlers))) (sym same) (reads (length s.handlers)); after = λ a to r e2 ra. done_reads added add (record (s0 s.stopped) { handlers = s.handlers ++ hx ∷ [] }) tied refl a to r e2 ra })

    registers : Meets P u (adds_handler t q1 hv k) (At p v)
    registers = by_room (nat_le 4096 (length s.handlers)) refl

  say_meets : {d : Value} {v : Expression} → Head P d v → Meets P u (asked t k primitive.Say d) (At primitive.Say v)
  say_meets (atoms (leaf_form.Str y) i) = tells primitive.Say (leaf (leaf_form.Str y)) (query.Say y) (query.Say y) refl refl
  say_meets {d} {v} _ = record { steps = 0; at = At primitive.Say v; comes = refl; stuck = refl }

  show_meets : {d : Value} {v : Expression} → Head P d v → Meets P u (asked t k primitive.Show d) (At primitive.Show v)
  show_meets (atoms (leaf_form.Str y) i) = tells primitive.Show (leaf (leaf_form.Str y)) (query.Show y) (query.Show y) refl refl
  show_meets {d} {v} _ = record { steps = 0; at = At primitive.Show v; comes = refl; stuck = refl }

  get_text_meets : {d : Value} {v : Expression} → Head P d v → Meets P u (asked t k primitive.GetText d) (At primitive.GetText v)
  get_text_meets (atoms (leaf_form.Str y) i) = record { steps = 0; waiting = At primitive.GetText (leaf (leaf_form.Str y)); comes = refl; ask = query.GetText y; resume_ = meaning_step.after_get_text P (At primitive.GetText (leaf (leaf_form.Str y))) s.threads fs x; asking = refl; reads = refl; after = λ a to r e ra. get_text_reads (leaf (leaf_form.Str y)) a to r e ra }
  get_text_meets {d} {v} _ = record { steps = 0; at = At primitive.GetText v; comes = refl; stuck = refl }

  read_meets : {d : Value} {v : Expression} → Head P d v → Meets P u (asked t k primitive.Read d) (At primitive.Read v)
  read_meets (atoms (leaf_form.Str y) i) = record { steps = 0; waiting = At primitive.Read (leaf (leaf_form.Str y)); comes = refl; ask = query.Read y; resume_ = meaning_step.after_read P (At primitive.Read (leaf (leaf_form.Str y))) s.threads fs x; asking = refl; reads = refl; after = λ a to r e ra. read_reads (leaf (leaf_form.Str y)) a to r e ra }
  read_meets {d} {v} _ = record { steps = 0; at = At primitive.Read v; comes = refl; stuck = refl }

  set_second : (y : List ℕ) {d : Value} {v : Expression} → Head P d v → Meets P u (asked t k primitive.SetText (join value.pair (atom (leaf_form.Str y)) d)) (At primitive.SetText (binary binary_form.Pair (leaf (leaf_form.Str y)) v))
  set_second y (atoms (leaf_form.Str z) i) = tells primitive.SetText (binary binary_form.Pair (leaf (leaf_form.Str y)) (leaf (leaf_form.Str z))) (query.Set y z) (query.Set y z) refl refl
  set_second y {d} {v} _ = record { steps = 0; at = At primitive.SetText (binary binary_form.Pair (leaf (leaf_form.Str y)) v); comes = refl; stuck = refl }

  set_first : {d e : Value} {v z : Expression} → Head P d v → Head P e z → Meets P u (asked t k primitive.SetText (join value.pair d e)) (At primitive.SetText (binary binary_form.Pair v z))
  set_first (atoms (leaf_form.Str y) i) g = set_second y g
  set_first {d} {e} {v} {z} _ g = record { steps = 0; at = At primitive.SetText (binary binary_form.Pair v z); comes = refl; stuck = refl }

  set_meets : {d : Value} {v : Expression} → Head P d v → Meets P u (asked t k primitive.SetText d) (At primitive.SetText v)
  set_meets (pairs d e v z rd re) = set_first (head_of P d v rd) (head_of P e z re)
  set_meets {d} {v} _ = record { steps = 0; at = At primitive.SetText v; comes = refl; stuck = refl }

  write_second : (y : List ℕ) {d : Value} {v : Expression} → Head P d v → Meets P u (asked t k primitive.Write (join value.pair (atom (leaf_form.Str y)) d)) (At primitive.Write (binary binary_form.Pair (leaf (leaf_form.Str y)) v))
  write_second y (atoms (leaf_form.Str z) i) = tells primitive.Write (binary binary_form.Pair (leaf (leaf_form.Str y)) (leaf (leaf_form.Str z))) (query.Write y z) (query.Write y z) refl refl
  write_second y {d} {v} _ = record { steps = 0; at = At primitive.Write (binary binary_form.Pair (leaf (leaf_form.Str y)) v); comes = refl; stuck = refl }

  write_first : {d e : Value} {v z : Expression} → Head P d v → Head P e z → Meets P u (asked t k primitive.Write (join value.pair d e)) (At primitive.Write (binary binary_form.Pair v z))
  write_first (atoms (leaf_form.Str y) i) g = write_second y g
  write_first {d} {e} {v} {z} _ g = record { steps = 0; at = At primitive.Write (binary binary_form.Pair v z); comes = refl; stuck = refl }

  write_meets : {d : Value} {v : Expression} → Head P d v → Meets P u (asked t k primitive.Write d) (At primitive.Write v)
  write_meets (pairs d e v z rd re) = write_first (head_of P d v rd) (head_of P e z re)
  write_meets {d} {v} _ = record { steps = 0; at = At primitive.Write v; comes = refl; stuck = refl }

  on_first : (e : Value) (z : Expression) {d : Value} {v : Expression} → Head P d v → Reads P e (SVal z) → Meets P u (asked t k primitive.On (join value.pair d e)) (At primitive.On (binary binary_form.Pair v z))
  on_first e z (atoms (leaf_form.Str y) i) g = registers primitive.On e (binary binary_form.Pair (leaf (leaf_form.Str y)) z) z g (query.On y) (query.On y) (λ i. refl) (λ o. refl)
  on_first e z {d} {v} _ g = record { steps = 0; at = At primitive.On (binary binary_form.Pair v z); comes = refl; stuck = refl }

  on_meets : {d : Value} {v : Expression} → Head P d v → Meets P u (asked t k primitive.On d) (At primitive.On v)
  on_meets (pairs d e v z rd re) = on_first e z (head_of P d v rd) re
  on_meets {d} {v} _ = record { steps = 0; at = At primitive.On v; comes = refl; stuck = refl }

  watch_first : (e : Value) (z : Expression) {d : Value} {v : Expression} → Head P d v → Reads P e (SVal z) → Meets P u (asked t k primitive.Watch (join value.pair d e)) (At primitive.Watch (binary binary_form.Pair v z))
  watch_first e z (atoms (leaf_form.Str y) i) g = registers primitive.Watch e (binary binary_form.Pair (leaf (leaf_form.Str y)) z) z g (query.Watch y) (query.Watch y) (λ i. refl) (λ o. refl)
  watch_first e z {d} {v} _ g = record { steps = 0; at = At primitive.Watch (binary binary_form.Pair v z); comes = refl; stuck = refl }

  watch_meets : {d : Value} {v : Expression} → Head P d v → Meets P u (asked t k primitive.Watch d) (At primitive.Watch v)
  watch_meets (pairs d e v z rd re) = watch_first e z (head_of P d v rd) re
  watch_meets {d} {v} _ = record { steps = 0; at = At primitive.Watch v; comes = refl; stuck = refl }

  head_asks : (p : Primitive) {d : Value} {v : Expression} → Head P d v → Meets P u (asked t k p d) (At p v)
  head_asks primitive.Say g = say_meets g
  head_asks primitive.SetText g = set_meets g
  head_asks primitive.GetText g = get_text_meets g
  head_asks primitive.On g = on_meets g
  head_asks primitive.Read g = read_meets g
  head_asks primitive.Write g = write_meets g
  head_asks primitive.Watch g = watch_meets g
  head_asks primitive.Show g = show_meets g

-- whatever primitive is asked by
pub asks_meet : (P : Program) (u : World) (site : IsSiteWorld u) (p : Primitive) → AsksMeet P u site p
asks_meet P u site p d k b v t s fs x w rd rk xe c wide h = head_asks P u site k b t s fs x w rk xe c wide h p (head_of P d v rd)
