-- The run of one block.
use Rattle.std.specs.Prelude.{ℕ, List, [], ◌∷◌, ◌++◌, Option, Some, None, Bool, true, false, ◌&&◌, IsTrue, IsSome, slice_get, if◌then◌else◌}
use Rattle.m5_region.specs.declared.value.Value.{Value}
use Rattle.m5_region.specs.declared.bench.Bench.{Bench}
use Rattle.m5_region.specs.Region.{Object, Refers}
use Rattle.m5_machine.specs.declared.step.Instruction.{Instruction}
use Rattle.m5_machine.specs.declared.made.Made.{Made}
use Rattle.m5_machine.specs.declared.made.Made.TheVariants as mades
use Rattle.m5_machine.specs.declared.next.Next.{Next}
use Rattle.m5_machine.specs.declared.next.Next.TheVariants.{Enters, Asks, Sends, Ended, FullRegion, FullTable, NoCase}
use Rattle.m5_machine.specs.Body.{Body, Then, If, Go, Ask, Send, Done}
use Rattle.m5_machine.specs.Blocks.{Flat}
use Rattle.m5_machine.specs.Operand.{bool_in}
use Rattle.m5_machine.specs.Closure.{entry, is_closure}
use Rattle.m5_machine.specs.Primitive.{takes}
use Rattle.m5_machine.specs.Table.{made}

-- the next slot is filled, or the run ends
abbrev pub fill_with : Made → Bench → Option Next × Bench
fill_with (mades.Gives v) bench = (None, record bench { slots = bench.slots ++ v ∷ [] })
fill_with mades.NoRegion bench = (Some FullRegion, bench)
fill_with mades.NoTable bench = (Some FullTable, bench)
fill_with mades.NoCase bench = (Some NoCase, bench)

abbrev pub filling : Flat → Instruction → Bench → Option Next × Bench
filling code i bench = fill_with (made code i bench).0 (made code i bench).1

-- the rest goes on, unless the run ended
abbrev pub and_then : Option Next → Bench → (Bench → Next × Bench) → Next × Bench
and_then None bench go = go bench
and_then (Some next) bench go = (next, bench)

abbrev pub choice : Option Bool → Bench → Next × Bench → Next × Bench → Next × Bench
choice None bench first second = (NoCase, bench)
choice (Some true) bench first second = first
choice (Some false) bench first second = second

-- what is made of the values of two slots
abbrev pub of_values : Option Value → Option Value → (Value → Value → Next) → Next
of_values None y make = NoCase
of_values (Some x) None make = NoCase
of_values (Some x) (Some y) make = make x y

abbrev pub of_slots : List Value → ℕ → ℕ → (Value → Value → Next) → Next
of_slots slots a b make = of_values (slice_get slots a) (slice_get slots b) make

-- an ask whose argument is what the primitive takes, and whose answer enters a closure
abbrev pub asking : Flat → List Object → ℕ → Value → Value → Next
asking code os primitive argument next =
    if takes code os primitive argument && is_closure code os next then Asks primitive argument next else NoCase

unfoldable pub run_body : Flat → Body → Bench → Next × Bench
run_body code (Then i b) bench =
    and_then (filling code i bench).0 (filling code i bench).1 (run_body code b)
run_body code (If s a b) bench =
    choice (bool_in (slice_get bench.slots s)) bench (run_body code a bench) (run_body code b bench)
run_body code (Go closure value) bench = (of_slots bench.slots closure value Enters, bench)
run_body code (Ask primitive argument next) bench =
    (of_slots bench.slots argument next (asking code bench.region.objects primitive), bench)
run_body code (Send world closure value) bench =
    (of_slots bench.slots closure value (Sends world), bench)
run_body code Done bench = (Ended, bench)

-- the values that come out of a block refer to objects of their kinds; an ask's are what it takes
pub record AskFits (code : Flat) (os : List Object) (primitive : ℕ) (argument next : Value) : Type 0 where
  pub argument_refers : Refers os argument
  pub next_refers : Refers os next
  pub taken : IsTrue (takes code os primitive argument)
  pub closure : IsSome (entry code os next)

abbrev pub NextFits : Flat → List Object → Next → Type 0
NextFits code os (Enters closure value) = Refers os closure × Refers os value
NextFits code os (Asks primitive argument next) = AskFits code os primitive argument next
NextFits code os (Sends world closure value) = Refers os closure × Refers os value
NextFits code os Ended = Unit {0}
NextFits code os FullRegion = Unit {0}
NextFits code os FullTable = Unit {0}
NextFits code os NoCase = Unit {0}
