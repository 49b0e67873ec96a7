-- What a site of an object does next.
use Rattle.std.specs.Prelude.{◌≡◌, ℕ, pos, ◌+◌, ◌-◌, ◌*◌, List, [], ◌∷◌, ◌++◌, length, Option, Some, None, Bool, false, ◌||◌, ◌==◌, nat_lt, if◌then◌else◌, unwrap_or}
use Rattle.m5_region.specs.declared.limits.TheConstants.{MOST_ITEMS}
use Rattle.m5_region.specs.declared.value.Value.{Value}
use Rattle.m5_region.specs.declared.value.Value.TheVariants as values
use Rattle.m5_region.specs.declared.queue.Ready.{Ready}
use Rattle.m5_region.specs.declared.bench.Bench.{Bench}
use Rattle.m5_region.specs.declared.out.Out.{Out}
use Rattle.m5_region.specs.declared.out.Out.TheVariants as out
use Rattle.m5_region.specs.Bench.{fresh_bench}
use Rattle.m5_region.specs.Region.{Object, ArrayOf, text_of}
use Rattle.m5_machine.specs.Operand.{with_one, text_in}
use Rattle.m5_machine.specs.Primitive.{two_parts}
use Rattle.m5_machine.specs.Run.{run}
use Rattle.m5_terms.specs.Machine.{Next, goes, asks, wrong}
use Rattle.m5_terms.specs.declared.types.World.{World}
use Rattle.m5_terms.specs.declared.types.World.TheVariants.{Home, Server, Panel}
use Rattle.m5_terms.specs.declared.ask.Cause.{Cause}
use Rattle.m5_terms.specs.declared.ask.Cause.TheVariants.{Spent, Region, Table}
use Rattle.m5_terms.specs.declared.ask.AskOf.{AskOf}
use Rattle.m5_terms.specs.declared.ask.AskOf.TheVariants as ask
use Rattle.m5_terms.specs.Seal.{seal_bytes}
use Rattle.m5_message.specs.Packing.{Sending, packed}
use Rattle.m5_site.specs.declared.state.State.{State}
use Rattle.m5_site.specs.declared.state.Limits.{Limits}
use Rattle.m5_site.specs.declared.state.Wait.{Wait}
use Rattle.m5_site.specs.declared.state.Wait.TheVariants as waits
use Rattle.m5_site.specs.declared.state.Need.{Need}
use Rattle.m5_site.specs.declared.state.Need.TheVariants as needs
use Rattle.m5_site.specs.Object.{Bundle, code_of}
use Rattle.m5_site.specs.Sending.{sendable_of, has_bytes, stands_where}
use Rattle.m5_site.specs.Making.{with_new, begins}
use Rattle.m5_site.specs.Answers.{Reply, answered}

-- ---- where it begins

abbrev pub empty : Limits → State
empty n = record {
  bench = fresh_bench (4 * n.region + 64) n.steps;
  handlers = [];
  due = None;
  stopped = false;
}

-- a home has the closure of `start`, and a thread that enters it; another site has nothing
abbrev pub opening : Bundle → Limits → World → State
opening O n Home =
    with_new (ArrayOf (values.Int (pos O.start) ∷ [])) values.Array (empty n) (λ v x. begins v values.Null x)
opening O n _ = empty n

-- ---- what comes of the front thread's run

abbrev pub with_bench : Bench → State → State
with_bench b x = record x { bench = b }

-- `on`, code 3, and `watch`, code 6, add a handler
abbrev pub adds_handler : ℕ → Bool
adds_handler p = p == 3 || p == 6

abbrev pub first_of : Option (Value × Value) → Value
first_of None = values.Null
first_of (Some p) = p.0

abbrev pub second_of : Option (Value × Value) → Value
second_of None = values.Null
second_of (Some p) = p.1

-- a handler joins the others before its call is asked, where there are fewer than 4,096
abbrev pub with_handler : Value → Wait → State → Wait × State
with_handler h wait x =
    if nat_lt (length x.handlers) MOST_ITEMS then (wait, record x { handlers = x.handlers ++ h ∷ [] })
    else (waits.Stop Table, x)

abbrev pub calls : ℕ → Value → Value → State → Wait × State
calls p argument next x =
    if adds_handler p
    then with_handler (second_of (two_parts x.bench.region.objects argument)) (waits.Call p argument next) x
    else (waits.Call p argument next, x)

abbrev pub world_of : ℕ → World
world_of n = if n == 0 then Home else (if n == 1 then Server else Panel)

-- what has no bytes cannot be sent
abbrev pub sends : Bundle → ℕ → ℕ → Ready → State → Wait × State
sends O label to thread x =
    if has_bytes O.dicts x.bench.region.objects thread then (waits.Send (world_of to) thread, x)
    else (waits.Wrong label, x)

abbrev pub came : Bundle → Out → State → Wait × State
came O (out.Asks p argument next) x = calls p argument next x
came O (out.Sends to code argument label) x =
    sends O label to (record { code = code; argument = argument }) x
came O out.Ended x = (waits.Nothing, x)
came O out.Spent x = (waits.Stop Spent, x)
came O out.FullRegion x = (waits.Stop Region, x)
came O out.FullTable x = (waits.Stop Table, x)
came O (out.Wrong label) x = (waits.Wrong label, x)

abbrev pub led : Bundle → World → List Ready → State → Wait × State
led O w [] x = (waits.Take, x)
led O w (t ∷ ts) x =
    let r = run (code_of O w) x.bench in came O r.0 (with_bench r.1 x)

abbrev pub moved_by : Bundle → World → Option Cause → State → Wait × State
moved_by O w (Some c) x = (waits.Stop c, x)
moved_by O w None x = led O w x.bench.threads x

-- the front thread runs up to what the site waits for then, which is nothing where the thread ended;
-- a site that is to stop waits for its stop, and one without a thread looks for something new
unfoldable pub moved : Bundle → World → State → Wait × State
moved O w x = moved_by O w x.due x

-- ---- what is asked

abbrev pub Query : Type 0
Query = AskOf (List ℕ)

-- the bytes of a text
abbrev pub bytes_of : List Object → Value → List ℕ
bytes_of os v = unwrap_or (with_one (text_in (Some v)) (λ r. text_of os r.0)) []

abbrev pub first_text : List Object → Value → List ℕ
first_text os v = bytes_of os (first_of (two_parts os v))

abbrev pub second_text : List Object → Value → List ℕ
second_text os v = bytes_of os (second_of (two_parts os v))

-- a primitive's call; a handler's number is that of the newest
abbrev pub called : List Object → ℕ → ℕ → Value → Query
called os handlers p v =
    if p == 0 then ask.Say (bytes_of os v)
    else (if p == 1 then ask.Set (first_text os v) (second_text os v)
    else (if p == 2 then ask.GetText (bytes_of os v)
    else (if p == 3 then ask.On (first_text os v) (handlers - 1)
    else (if p == 4 then ask.Read (bytes_of os v)
    else (if p == 5 then ask.Write (first_text os v) (second_text os v)
    else (if p == 6 then ask.Watch (first_text os v) (handlers - 1)
    else ask.Show (bytes_of os v)))))))

-- the bytes that are sent, which are the same at each world at which the label stands
abbrev pub sent_bytes : Bundle → ℕ → List Object → Option Sending → List ℕ
sent_bytes O s os None = []
sent_bytes O s os (Some t) = packed O.dicts (stands_where O.dicts os t) (seal_bytes s) os t

abbrev pub query : Bundle → ℕ → State → Wait → Query
query O s x waits.Nothing = ask.Take
query O s x (waits.Call p argument next) =
    called x.bench.region.objects (length x.handlers) p argument
query O s x (waits.Send v thread) =
    let os = x.bench.region.objects in ask.Send v (sent_bytes O s os (sendable_of O.dicts os thread))
query O s x waits.Take = ask.Take
query O s x (waits.Stop c) = ask.Stop c
query O s x (waits.Wrong label) = ask.Take

-- ---- what a site needs to go on

-- what an answer is wanted to, or what ends it
abbrev pub need_of : Wait → Need
need_of waits.Nothing = needs.Take
need_of (waits.Call p argument next) = needs.Ask
need_of (waits.Send v thread) = needs.Ask
need_of waits.Take = needs.Take
need_of (waits.Stop c) = needs.Stop c
need_of (waits.Wrong label) = needs.Wrong label

-- a primitive's call, or a send
abbrev pub IsAsked : Wait → Type 0
IsAsked wait = need_of wait ≡ needs.Ask

-- ---- a site of session s at a world, as a machine

-- a stop for want of steps or region is one that the run chooses, and no answer goes on from it
abbrev pub resumed : Bundle → ℕ → World → State → Wait → Reply → Option State
resumed O s w x (waits.Stop Spent) r = None
resumed O s w x (waits.Stop Region) r = None
resumed O s w x wait r = answered O s w x wait r

abbrev pub next_of : Bundle → ℕ → World → Wait → State → Next State Query Reply
next_of O s w waits.Nothing x = goes x
next_of O s w (waits.Wrong label) x = wrong
next_of O s w wait x = asks (query O s x wait) (resumed O s w x wait)

abbrev pub site_next : Bundle → ℕ → World → State → Next State Query Reply
site_next O s w x = next_of O s w (moved O w x).0 (moved O w x).1
