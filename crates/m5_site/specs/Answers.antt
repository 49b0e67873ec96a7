-- What each answer makes of a site.
use Rattle.std.specs.Prelude.{ℕ, pos, List, [], ◌∷◌, ◌++◌, length, map, Option, Some, None, Bool, true, false, ◌||◌, ◌-◌, ◌==◌, nat_lt, slice_get, if◌then◌else◌, Result, Ok, Err}
use Rattle.m5_region.specs.declared.value.Value.{Value}
use Rattle.m5_region.specs.declared.value.Value.TheVariants as values
use Rattle.m5_region.specs.Region.{ArrayOf, TextOf, units_in}
use Rattle.m5_terms.specs.declared.types.World.{World}
use Rattle.m5_terms.specs.declared.ask.Cause.TheVariants.{Region}
use Rattle.m5_terms.specs.declared.ask.AnswerOf.{AnswerOf}
use Rattle.m5_terms.specs.declared.ask.AnswerOf.TheVariants as answer
use Rattle.m5_terms.specs.Seal.{seal_bytes}
use Rattle.m5_message.specs.Message.{Message, Fault, message_at}
use Rattle.m5_message.specs.Sharing.{shifted_object}
use Rattle.m5_marshal.specs.Unpack.{ready_behind}
use Rattle.m5_site.specs.declared.state.State.{State}
use Rattle.m5_site.specs.declared.state.Wait.{Wait}
use Rattle.m5_site.specs.declared.state.Wait.TheVariants as waits
use Rattle.m5_site.specs.Object.{Bundle}
use Rattle.m5_site.specs.Making.{to_stop, with_region, with_new, enters, begins, unless_due}

-- an answer to a site, whose items are bytes
abbrev pub Reply : Type 0
Reply = AnswerOf (List ℕ)

-- `get_text`, code 2, and `read`, code 4, are answered with a text
abbrev pub gives_text : ℕ → Bool
gives_text p = p == 2 || p == 4

-- what was read is there, or is not: `inr` of the text, and `inl` of unit
abbrev pub read_text : Value → List ℕ → State → State
read_text next t x = with_new (TextOf t) values.Text x (λ v y.
    with_new (ArrayOf (values.Bool true ∷ v ∷ [])) values.Array y (enters next))

abbrev pub read_none : Value → State → State
read_none next x = with_new (ArrayOf (values.Bool false ∷ values.Null ∷ [])) values.Array x (enters next)

abbrev pub got_text : Value → List ℕ → State → State
got_text next t x = with_new (TextOf t) values.Text x (enters next)

-- a primitive's answer enters its closure
abbrev pub after_call : State → ℕ → Value → Reply → Option State
after_call x p next answer.Done = if gives_text p then None else Some (enters next values.Null x)
after_call x p next (answer.Found t) =
    if p == 2 then Some (got_text next t x) else (if p == 4 then Some (read_text next t x) else None)
after_call x p next answer.Missing = if p == 4 then Some (read_none next x) else None
after_call x p next _ = None

abbrev pub after_send : State → Reply → Option State
after_send x answer.Done = Some x
after_send x _ = None

-- a handler is called with its text, the closure with which it ends, and the array of the two
abbrev pub handled : ℕ → List ℕ → Value → State → State
handled finish t handler x = with_new (TextOf t) values.Text x (λ text y.
    with_new (ArrayOf (values.Int (pos finish) ∷ [])) values.Array y (λ end z.
    with_new (ArrayOf (text ∷ end ∷ [])) values.Array z (begins handler)))

-- a number that the site does not have makes nothing
abbrev pub handled_by : ℕ → List ℕ → Option Value → State → State
handled_by finish t None x = x
handled_by finish t (Some handler) x = handled finish t handler x

-- the handlers in order, each one's objects and its thread before the next one's
abbrev pub all_handled : ℕ → List ℕ → List ℕ → State → State
all_handled finish t [] x = x
all_handled finish t (n ∷ ns) x =
    let y = handled_by finish t (slice_get x.handlers n) x in
    unless_due y.due y (all_handled finish t ns)

-- the thread for which the bytes stand goes last; bytes that stand for none change nothing
abbrev pub arrived_at : ℕ → Message → State → State
arrived_at base m x = begins (ready_behind base m).code (ready_behind base m).argument x

abbrev pub arrived : Result Message Fault → State → State
arrived (Err fault) x = x
arrived (Ok m) x =
    let base = length x.bench.region.objects in
    if nat_lt x.bench.region.left (units_in m.objects) then to_stop Region x
    else arrived_at base m (with_region (record {
      objects = x.bench.region.objects ++ map (shifted_object base) m.objects;
      left = x.bench.region.left - units_in m.objects;
    }) x)

abbrev pub after_take : Bundle → ℕ → World → State → Reply → Option State
after_take O s w x (answer.Message v bytes) = Some (arrived (message_at O.dicts w (seal_bytes s) bytes) x)
after_take O s w x (answer.Fired k n t) = Some (all_handled O.finish t (n ∷ []) x)
after_take O s w x (answer.Event e ns t) = Some (all_handled O.finish t ns x)
after_take O s w x answer.Nothing = Some x
after_take O s w x _ = None

abbrev pub halted : State → State
halted x = record x { stopped = true }

abbrev pub after_stop : State → Reply → Option State
after_stop x answer.Done = Some (halted x)
after_stop x _ = None

-- what an answer makes of a site that waits
abbrev pub answered : Bundle → ℕ → World → State → Wait → Reply → Option State
answered O s w x waits.Nothing r = None
answered O s w x (waits.Call p argument next) r = after_call x p next r
answered O s w x (waits.Send v thread) r = after_send x r
answered O s w x waits.Take r = after_take O s w x r
answered O s w x (waits.Stop c) r = after_stop x r
answered O s w x (waits.Wrong label) r = None
