-- What a run asks is what the steps of its code ask.
use Rattle.std.proofs.Common.{ℕ, zero, suc, List, [], ◌∷◌, drop, Option, Some, None, Bool, true, false, ◌&&◌, cond, slice_get}
use Rattle.std.specs.List.{AllByRecursion as Each}
use Rattle.m5_region.specs.declared.value.Value.{Value}
use Rattle.m5_region.specs.declared.queue.Ready.{Ready}
use Rattle.m5_region.specs.declared.bench.Bench.{Bench}
use Rattle.m5_region.specs.declared.out.Out.{Out}
use Rattle.m5_region.specs.declared.out.Out.TheVariants as out
use Rattle.m5_machine.specs.declared.step.Step.{Step}
use Rattle.m5_machine.specs.declared.step.Step.TheVariants as steps
use Rattle.m5_machine.specs.declared.made.Made.{Made}
use Rattle.m5_machine.specs.declared.made.Made.TheVariants as mades
use Rattle.m5_machine.specs.declared.closure.Target.{Target}
use Rattle.m5_machine.specs.declared.next.Next.{Next}
use Rattle.m5_machine.specs.declared.next.Next.TheVariants.{Enters, Asks, Sends, Ended, FullRegion, FullTable, NoCase}
use Rattle.m5_machine.specs.Body.{Body, Then, If, Go, Ask, Send, Done, one, two, onto, bodies}
use Rattle.m5_machine.specs.Blocks.{Flat, body_at, first_or_done}
use Rattle.m5_machine.specs.Operand.{bool_in}
use Rattle.m5_machine.specs.Primitive.{takes}
use Rattle.m5_machine.specs.Closure.{entry, is_closure}
use Rattle.m5_machine.specs.Table.{made}
use Rattle.m5_machine.specs.Block.{run_body, and_then, fill_with, choice, of_values, asking}
use Rattle.m5_machine.specs.Run.{run, run_from, run_block, run_entered, run_threads, going, next_block, entering, ending}

-- P holds of the primitives that are called, and Q of the worlds to which threads are sent

abbrev pub StepAsks : (ℕ → Type 0) → (ℕ → Type 0) → Step → Type 0
StepAsks P Q (steps.Ask p argument next) = P p
StepAsks P Q (steps.Send to closure value) = Q to
StepAsks P Q _ = Unit {0}

abbrev BodyAsks : (ℕ → Type 0) → (ℕ → Type 0) → Body → Type 0
BodyAsks P Q (Then i b) = BodyAsks P Q b
BodyAsks P Q (If s a b) = BodyAsks P Q a × BodyAsks P Q b
BodyAsks P Q (Go closure value) = Unit {0}
BodyAsks P Q (Ask p argument next) = P p
BodyAsks P Q (Send to closure value) = Q to
BodyAsks P Q Done = Unit {0}

abbrev NextAsks : (ℕ → Type 0) → (ℕ → Type 0) → Next → Type 0
NextAsks P Q (Asks p argument next) = P p
NextAsks P Q (Sends to closure value) = Q to
NextAsks P Q _ = Unit {0}

abbrev pub OutAsks : (ℕ → Type 0) → (ℕ → Type 0) → Out → Type 0
OutAsks P Q (out.Asks p argument next) = P p
OutAsks P Q (out.Sends to closure value label) = Q to
OutAsks P Q _ = Unit {0}

module _ (P Q : ℕ → Type 0) where
  -- bodies of such steps

  one_asks : (i : Body → Body) (bs : List Body) → ((b : Body) → BodyAsks P Q b → BodyAsks P Q (i b)) → Each (BodyAsks P Q) bs → Each (BodyAsks P Q) (one i bs)
  one_asks i [] f h = tt
  one_asks i (b ∷ bs) f h = (f b h.0, h.1)

  two_asks : (s : ℕ) (bs : List Body) → Each (BodyAsks P Q) bs → Each (BodyAsks P Q) (two (If s) bs)
  two_asks s [] h = tt
  two_asks s (a ∷ []) h = tt
  two_asks s (a ∷ b ∷ bs) h = ((h.0, h.1.0), h.1.1)

  onto_asks : (s : Step) (bs : List Body) → StepAsks P Q s → Each (BodyAsks P Q) bs → Each (BodyAsks P Q) (onto s bs)
  onto_asks (steps.Fill i) bs g h = one_asks (Then i) bs (λ b k. k) h
  onto_asks (steps.If slot place) bs g h = two_asks slot bs h
  onto_asks (steps.Go closure value) bs g h = (tt, h)
  onto_asks (steps.Ask p argument next) bs g h = (g, h)
  onto_asks (steps.Send to closure value) bs g h = (g, h)
  onto_asks steps.Done bs g h = (tt, h)

  bodies_ask : (ss : List Step) → Each (StepAsks P Q) ss → Each (BodyAsks P Q) (bodies ss)
  bodies_ask [] h = tt
  bodies_ask (s ∷ ss) h = onto_asks s (bodies ss) h.0 (bodies_ask ss h.1)

  dropped : (ss : List Step) (n : ℕ) → Each (StepAsks P Q) ss → Each (StepAsks P Q) (drop n ss)
  dropped [] zero h = tt
  dropped [] (suc n) h = tt
  dropped (s ∷ ss) zero h = h
  dropped (s ∷ ss) (suc n) h = dropped ss n h.1

  first_asks : (bs : List Body) → Each (BodyAsks P Q) bs → BodyAsks P Q (first_or_done bs)
  first_asks [] h = tt
  first_asks (b ∷ bs) h = h.0

  body_at_asks : (code : Flat) (at : ℕ) → Each (StepAsks P Q) code.steps → BodyAsks P Q (body_at code at)
  unfolding body_at
  body_at_asks code at h = first_asks (bodies (drop at code.steps)) (bodies_ask (drop at code.steps) (dropped code.steps at h))

  -- runs of such bodies

  then_asks : (m : Made) (bench : Bench) (go : Bench → Next × Bench) → ((b : Bench) → NextAsks P Q (go b).0) → NextAsks P Q (and_then (fill_with m bench).0 (fill_with m bench).1 go).0
  then_asks (mades.Gives v) bench go h = h _
  then_asks mades.NoRegion bench go h = tt
  then_asks mades.NoTable bench go h = tt
  then_asks mades.NoCase bench go h = tt

  choice_asks : (m : Option Bool) (bench : Bench) (p q : Next × Bench) → NextAsks P Q p.0 → NextAsks P Q q.0 → NextAsks P Q (choice m bench p q).0
  choice_asks None bench p q e f = tt
  choice_asks (Some true) bench p q e f = e
  choice_asks (Some false) bench p q e f = f

  values_ask : (x y : Option Value) (make : Value → Value → Next) → ((a b : Value) → NextAsks P Q (make a b)) → NextAsks P Q (of_values x y make)
  values_ask None y make h = tt
  values_ask (Some a) None make h = tt
  values_ask (Some a) (Some b) make h = h a b

  tested : (b : Bool) (x : Next) → NextAsks P Q x → NextAsks P Q (cond b x NoCase)
  tested true x h = h
  tested false x h = tt

  body_asks : (code : Flat) (b : Body) (bench : Bench) → BodyAsks P Q b → NextAsks P Q (run_body code b bench).0
  unfolding run_body
  body_asks code (Then x b) bench h = then_asks (made code x bench).0 (made code x bench).1 (run_body code b) (λ y. body_asks code b y h)
  body_asks code (If s a b) bench h = choice_asks (bool_in (slice_get bench.slots s)) bench (run_body code a bench) (run_body code b bench) (body_asks code a bench h.0) (body_asks code b bench h.1)
  body_asks code (Go c v) bench h = values_ask (slice_get bench.slots c) (slice_get bench.slots v) Enters (λ a b. tt)
  body_asks code (Ask p a n) bench h = values_ask (slice_get bench.slots a) (slice_get bench.slots n) (asking code bench.region.objects p) (λ x y. tested (takes code bench.region.objects p x && is_closure code bench.region.objects y) (Asks p x y) h)
  body_asks code (Send w c v) bench h = values_ask (slice_get bench.slots c) (slice_get bench.slots v) (Sends w) (λ a b. h)
  body_asks code Done bench h = tt

  ending_asks : (label : ℕ) (next : Next) → NextAsks P Q next → OutAsks P Q (ending label next)
  ending_asks label (Enters closure value) h = tt
  ending_asks label (Asks p argument next) h = h
  ending_asks label (Sends to closure value) h = h
  ending_asks label Ended h = tt
  ending_asks label FullRegion h = tt
  ending_asks label FullTable h = tt
  ending_asks label NoCase h = tt

  going_asks : (t : Option Target) (to : Option (Value × Value)) (label : ℕ) (next : Next) (bench : Bench) (go : Value → Value → Target → Bench → Out × Bench) → NextAsks P Q next → ((x y : Value) (z : Target) → OutAsks P Q (go x y z bench).0) → OutAsks P Q (going t to label next bench go).0
  going_asks None to label next bench go e h = ending_asks label next e
  going_asks (Some t) None label next bench go e h = ending_asks label next e
  going_asks (Some t) (Some to) label next bench go e h = h to.0 to.1 t

  from_asks : (code : Flat) (fuel : ℕ) (c v : Value) (to : Target) (bench : Bench) → Each (StepAsks P Q) code.steps → OutAsks P Q (run_from code fuel c v to bench).0
  unfolding run_from
  from_asks code zero c v to bench h = tt
  from_asks code (suc fuel) c v to bench h =
      let r = run_block code c v to.start (record bench { fuel = fuel }) in
      going_asks (next_block code r.1.region.objects (entering r.0)) (entering r.0) to.label r.0 r.1 (run_from code fuel)
      (body_asks code (body_at code to.start) (record bench { fuel = fuel; slots = c ∷ v ∷ [] }) (body_at_asks code to.start h)) (λ x y z. from_asks code fuel x y z r.1 h)

  entered_asks : (code : Flat) (t : Ready) (m : Option Target) (bench : Bench) → Each (StepAsks P Q) code.steps → OutAsks P Q (run_entered code t m bench).0
  entered_asks code t None bench h = tt
  entered_asks code t (Some to) bench h = from_asks code bench.fuel t.code t.argument to bench h

  threads_ask : (code : Flat) (ts : List Ready) (bench : Bench) → Each (StepAsks P Q) code.steps → OutAsks P Q (run_threads code ts bench).0
  threads_ask code [] bench h = tt
  threads_ask code (t ∷ ts) bench h = entered_asks code t (entry code bench.region.objects t.code) (record bench { threads = ts }) h

  pub run_asks : (code : Flat) (bench : Bench) → Each (StepAsks P Q) code.steps → OutAsks P Q (run code bench).0
  run_asks code bench h = threads_ask code bench.threads bench h
