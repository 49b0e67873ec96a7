-- A site that is not stopped goes on so, but from a stop.
use Rattle.std.proofs.Common.{◌≡◌, ℕ, zero, suc, pos, ◌==◌, ◌-◌, List, [], ◌∷◌, ◌++◌, length, map, refl, sym, ap, subst, ◌∙◌, Option, Some, None, Bool, true, false, cond, nat_lt, slice_get, Result, Ok, Err}
use Rattle.m5_region.specs.declared.limits.TheConstants.{MOST_ITEMS}
use Rattle.m5_region.specs.declared.value.Ref.{Ref}
use Rattle.m5_region.specs.declared.value.Value.{Value}
use Rattle.m5_region.specs.declared.value.Value.TheVariants as values
use Rattle.m5_region.specs.declared.queue.Ready.{Ready}
use Rattle.m5_region.specs.declared.out.Out.{Out}
use Rattle.m5_region.specs.declared.out.Out.TheVariants as out
use Rattle.m5_region.specs.Region.{Object, ArrayOf, TextOf, units_in}
use Rattle.m5_machine.specs.declared.made.Made.{Made}
use Rattle.m5_machine.specs.declared.made.Made.TheVariants as mades
use Rattle.m5_machine.specs.Primitive.{two_parts}
use Rattle.m5_machine.specs.Run.{run}
use Rattle.m5_machine.specs.Table.{with_object}
use Rattle.m5_message.specs.Message.{Message, Fault, message_at}
use Rattle.m5_message.specs.Sharing.{shifted_object}
use Rattle.m5_terms.specs.Machine.{Next, goes, asks, wrong, Comes}
use Rattle.m5_terms.specs.Seal.{seal_bytes}
use Rattle.m5_terms.specs.declared.types.World.{World}
use Rattle.m5_terms.specs.declared.ask.Cause.{Cause}
use Rattle.m5_terms.specs.declared.ask.Cause.TheVariants.{Region, Table}
use Rattle.m5_terms.specs.declared.ask.AnswerOf.TheVariants as answer
use Rattle.m5_site.specs.declared.state.State.{State}
use Rattle.m5_site.specs.declared.state.Wait.{Wait}
use Rattle.m5_site.specs.declared.state.Wait.TheVariants as waits
use Rattle.m5_site.specs.Object.{Bundle, code_of}
use Rattle.m5_site.specs.Sending.{has_bytes}
use Rattle.m5_site.specs.Making.{to_stop, with_region, with_threads, if_made, with_new, enters, begins, unless_due}
use Rattle.m5_site.specs.Answers.{Reply, answered, gives_text, read_text, read_none, got_text, after_call, handled, handled_by, all_handled, arrived, arrived_at, after_take, after_send}
use Rattle.m5_site.specs.Site.{Query, moved, moved_by, led, came, with_handler, with_bench, adds_handler, second_of, world_of, site_next, next_of}
use Rattle.m5_site.specs.Stops.{ComesTo}
use Rattle.m5_net.specs.Turning.{IsGoing}

-- ---- local steps

abbrev Alike : State → State → Type 0
Alike x y = y.stopped ≡ x.stopped

handler_alike : (p : ℕ) (a n v : Value) (x : State) (b : Bool) → Alike x (cond {A = Wait × State} b (waits.Call p a n, record x { handlers = x.handlers ++ v ∷ [] }) (waits.Stop Table, x)).1
handler_alike p a n v x true = refl
handler_alike p a n v x false = refl

call_alike : (p : ℕ) (a n : Value) (x : State) (b : Bool) → Alike x (cond {A = Wait × State} b (with_handler (second_of (two_parts x.bench.region.objects a)) (waits.Call p a n) x) (waits.Call p a n, x)).1
call_alike p a n x true = handler_alike p a n (second_of (two_parts x.bench.region.objects a)) x (nat_lt (length x.handlers) MOST_ITEMS)
call_alike p a n x false = refl

send_alike : (label to : ℕ) (t : Ready) (x : State) (b : Bool) → Alike x (cond {A = Wait × State} b (waits.Send (world_of to) t, x) (waits.Wrong label, x)).1
send_alike label to t x true = refl
send_alike label to t x false = refl

came_alike : (O : Bundle) (o : Out) (x : State) → Alike x (came O o x).1
came_alike O (out.Asks p a n) x = call_alike p a n x (adds_handler p)
came_alike O (out.Sends to c a label) x = send_alike label to (record { code = c; argument = a }) x (has_bytes O.dicts x.bench.region.objects (record { code = c; argument = a }))
came_alike O out.Ended x = refl
came_alike O out.Spent x = refl
came_alike O out.FullRegion x = refl
came_alike O out.FullTable x = refl
came_alike O (out.Wrong label) x = refl

led_alike : (O : Bundle) (w : World) (ts : List Ready) (x : State) → Alike x (led O w ts x).1
led_alike O w [] x = refl
led_alike O w (t ∷ ts) x =
    let r = run (code_of O w) x.bench in came_alike O r.0 (with_bench r.1 x)

by_alike : (O : Bundle) (w : World) (due : Option Cause) (x : State) → Alike x (moved_by O w due x).1
by_alike O w (Some c) x = refl
by_alike O w None x = led_alike O w x.bench.threads x

moved_alike : (O : Bundle) (w : World) (x : State) → Alike x (moved O w x).1
unfolding moved
moved_alike O w x = by_alike O w x.due x

abbrev NextAlike : State → Next State Query Reply → Type 0
NextAlike x (goes y) = Alike x y
NextAlike x (asks q f) = Unit {0}
NextAlike x wrong = Unit {0}

next_alike : (O : Bundle) (s : ℕ) (w : World) (x : State) (wait : Wait) (y : State) → Alike x y → NextAlike x (next_of O s w wait y)
next_alike O s w x waits.Nothing y h = h
next_alike O s w x (waits.Call p argument next) y h = tt
next_alike O s w x (waits.Send v thread) y h = tt
next_alike O s w x waits.Take y h = tt
next_alike O s w x (waits.Stop c) y h = tt
next_alike O s w x (waits.Wrong label) y h = tt

step_alike : (O : Bundle) (s : ℕ) (w : World) (x y : State) → site_next O s w x ≡ goes y → Alike x y
step_alike O s w x y e = subst (NextAlike x) e (next_alike O s w x (moved O w x).0 (moved O w x).1 (moved_alike O w x))

comes_alike : (O : Bundle) (s : ℕ) (w : World) (n : ℕ) (x y : State) → Comes (site_next O s w) n x y → Alike x y
comes_alike O s w zero x y h = ap (λ (z : State). z.stopped) (sym h)
comes_alike O s w (suc n) x y h = comes_alike O s w n h.0 y h.2 ∙ step_alike O s w x h.0 h.1

come_alike : (O : Bundle) (s : ℕ) (w : World) (x y : State) (wait : Wait) → ComesTo O s w x wait y → Alike x y
come_alike O s w x y wait h =
    let last : Alike h.at y = subst (λ (p : Wait × State). Alike h.at p.1) h.waiting (moved_alike O w h.at) in
    last ∙ comes_alike O s w h.steps x h.at h.comes

-- ---- answers

enters_alike : (code argument : Value) (x : State) → Alike x (enters code argument x)
enters_alike code argument x = by_room (nat_lt (length x.bench.threads) MOST_ITEMS)
  where
    by_room : (b : Bool) → Alike x (cond b (with_threads (record { code = code; argument = argument } ∷ x.bench.threads) x) (to_stop Table x))
    by_room true = refl
    by_room false = refl

pub begins_alike : (code argument : Value) (x : State) → Alike x (begins code argument x)
begins_alike code argument x = by_room (nat_lt (length x.bench.threads) MOST_ITEMS)
  where
    by_room : (b : Bool) → Alike x (cond b (with_threads (x.bench.threads ++ record { code = code; argument = argument } ∷ []) x) (to_stop Table x))
    by_room true = refl
    by_room false = refl

made_alike : (m : Made) (x : State) (go : Value → State → State) → ((v : Value) (y : State) → Alike y (go v y)) → Alike x (if_made m x go)
made_alike (mades.Gives v) x go h = h v x
made_alike mades.NoRegion x go h = refl
made_alike mades.NoTable x go h = refl
made_alike mades.NoCase x go h = refl

pub new_alike : (o : Object) (f : Ref → Value) (x : State) (go : Value → State → State) → ((v : Value) (y : State) → Alike y (go v y)) → Alike x (with_new o f x go)
new_alike o f x go h = made_alike (with_object x.bench.region o f).0 (with_region (with_object x.bench.region o f).1 x) go h

got_alike : (next : Value) (t : List ℕ) (x : State) → Alike x (got_text next t x)
got_alike next t x = new_alike (TextOf t) values.Text x (enters next) (enters_alike next)

none_alike : (next : Value) (x : State) → Alike x (read_none next x)
none_alike next x = new_alike (ArrayOf (values.Bool false ∷ values.Null ∷ [])) values.Array x (enters next) (enters_alike next)

read_alike : (next : Value) (t : List ℕ) (x : State) → Alike x (read_text next t x)
read_alike next t x =
    new_alike (TextOf t) values.Text x (λ v y. with_new (ArrayOf (values.Bool true ∷ v ∷ [])) values.Array y (enters next))
    (λ v y. new_alike (ArrayOf (values.Bool true ∷ v ∷ [])) values.Array y (enters next) (enters_alike next))

-- the handler's call, once its text and its end are there
abbrev with_both : Value → Value → Value → State → State
with_both handler text end z = with_new (ArrayOf (text ∷ end ∷ [])) values.Array z (begins handler)

abbrev with_end : ℕ → Value → Value → State → State
with_end finish handler text y = with_new (ArrayOf (values.Int (pos finish) ∷ [])) values.Array y (with_both handler text)

handled_alike : (finish : ℕ) (t : List ℕ) (handler : Value) (x : State) → Alike x (handled finish t handler x)
handled_alike finish t handler x =
    new_alike (TextOf t) values.Text x (with_end finish handler)
    (λ text y. new_alike (ArrayOf (values.Int (pos finish) ∷ [])) values.Array y (with_both handler text)
    (λ end z. new_alike (ArrayOf (text ∷ end ∷ [])) values.Array z (begins handler) (begins_alike handler)))

by_alike_handler : (finish : ℕ) (t : List ℕ) (h : Option Value) (x : State) → Alike x (handled_by finish t h x)
by_alike_handler finish t None x = refl
by_alike_handler finish t (Some h) x = handled_alike finish t h x

unless_alike : (due : Option Cause) (x : State) (go : State → State) → Alike x (go x) → Alike x (unless_due due x go)
unless_alike None x go h = h
unless_alike (Some c) x go h = refl

handlers_alike : (finish : ℕ) (t : List ℕ) (ns : List ℕ) (x : State) → Alike x (all_handled finish t ns x)
handlers_alike finish t [] x = refl
handlers_alike finish t (n ∷ ns) x =
    let y = handled_by finish t (slice_get x.handlers n) x in
    unless_alike y.due y (all_handled finish t ns) (handlers_alike finish t ns y) ∙ by_alike_handler finish t (slice_get x.handlers n) x

arrived_alike : (m : Result Message Fault) (x : State) → Alike x (arrived m x)
arrived_alike (Err fault) x = refl
arrived_alike (Ok m) x = by_room (nat_lt x.bench.region.left (units_in m.objects))
  where
    base : ℕ
    base = length x.bench.region.objects

    by_room : (b : Bool) → Alike x (cond b (to_stop Region x) (arrived_at base m (with_region (record { objects = x.bench.region.objects ++ map (shifted_object base) m.objects; left = x.bench.region.left - units_in m.objects }) x)))
    by_room true = refl
    by_room false = begins_alike _ _ (with_region (record { objects = x.bench.region.objects ++ map (shifted_object base) m.objects; left = x.bench.region.left - units_in m.objects }) x)

abbrev SomeAlike : State → Option State → Type 0
SomeAlike x None = Unit {0}
SomeAlike x (Some y) = Alike x y

either : (x : State) (b : Bool) (p q : Option State) → SomeAlike x p → SomeAlike x q → SomeAlike x (cond b p q)
either x true p q h k = h
either x false p q h k = k

call_answered : (x : State) (p : ℕ) (next : Value) (r : Reply) → SomeAlike x (after_call x p next r)
call_answered x p next answer.Done = either x (gives_text p) None (Some (enters next values.Null x)) tt (enters_alike next values.Null x)
call_answered x p next (answer.Found t) =
    either x (p == 2) (Some (got_text next t x)) (cond (p == 4) (Some (read_text next t x)) None) (got_alike next t x) (either x (p == 4) (Some (read_text next t x)) None (read_alike next t x) tt)
call_answered x p next answer.Missing = either x (p == 4) (Some (read_none next x)) None (none_alike next x) tt
call_answered x p next (answer.Message v i) = tt
call_answered x p next (answer.Fired k n t) = tt
call_answered x p next (answer.Event e ns t) = tt
call_answered x p next answer.Nothing = tt

take_answered : (O : Bundle) (s : ℕ) (w : World) (x : State) (r : Reply) → SomeAlike x (after_take O s w x r)
take_answered O s w x answer.Done = tt
take_answered O s w x (answer.Found t) = tt
take_answered O s w x answer.Missing = tt
take_answered O s w x (answer.Message v bytes) = arrived_alike (message_at O.dicts w (seal_bytes s) bytes) x
take_answered O s w x (answer.Fired k n t) = handlers_alike O.finish t (n ∷ []) x
take_answered O s w x (answer.Event e ns t) = handlers_alike O.finish t ns x
take_answered O s w x answer.Nothing = refl

send_answered : (x : State) (r : Reply) → SomeAlike x (after_send x r)
send_answered x answer.Done = refl
send_answered x (answer.Found t) = tt
send_answered x answer.Missing = tt
send_answered x (answer.Message v bytes) = tt
send_answered x (answer.Fired k n t) = tt
send_answered x (answer.Event e ns t) = tt
send_answered x answer.Nothing = tt

wait_answered : (O : Bundle) (s : ℕ) (w : World) (x : State) (wait : Wait) (r : Reply) → IsGoing wait → SomeAlike x (answered O s w x wait r)
wait_answered O s w x waits.Nothing r g = absurd g
wait_answered O s w x (waits.Call p argument next) r g = call_answered x p next r
wait_answered O s w x (waits.Send v thread) r g = send_answered x r
wait_answered O s w x waits.Take r g = take_answered O s w x r
wait_answered O s w x (waits.Stop c) r g = absurd g
wait_answered O s w x (waits.Wrong label) r g = absurd g

-- what comes to where it waits and is answered is stopped only if it was
pub goes_on_alike : (O : Bundle) (s : ℕ) (w : World) (from x y : State) (wait : Wait) (r : Reply) → IsGoing wait → ComesTo O s w from wait x → answered O s w x wait r ≡ Some y → y.stopped ≡ from.stopped
goes_on_alike O s w from x y wait r g h e =
    let kept : Alike x y = subst (SomeAlike x) e (wait_answered O s w x wait r g) in
    kept ∙ come_alike O s w from x wait h
