-- The run of a thread, block by block: each that is entered costs one of the fuel.
use Rattle.std.specs.Prelude.{ℕ, zero, suc, List, [], ◌∷◌, Option, Some, None}
use Rattle.m5_region.specs.declared.value.Value.{Value}
use Rattle.m5_region.specs.declared.bench.Bench.{Bench}
use Rattle.m5_region.specs.declared.queue.Ready.{Ready}
use Rattle.m5_region.specs.declared.out.Out.{Out}
use Rattle.m5_region.specs.declared.out.Out.TheVariants as out
use Rattle.m5_region.specs.Region.{Object, Refers}
use Rattle.m5_machine.specs.declared.closure.Target.{Target}
use Rattle.m5_machine.specs.declared.next.Next.{Next}
use Rattle.m5_machine.specs.declared.next.Next.TheVariants.{Enters, Asks, Sends, Ended, FullRegion, FullTable, NoCase}
use Rattle.m5_machine.specs.Blocks.{Flat, body_at}
use Rattle.m5_machine.specs.Closure.{entry}
use Rattle.m5_machine.specs.Block.{run_body, AskFits}

-- a block's run with the closure and the argument in the first two slots
abbrev pub run_block : Flat → Value → Value → ℕ → Bench → Next × Bench
run_block code closure value start bench =
    run_body code (body_at code start) (record bench { slots = closure ∷ value ∷ [] })

-- how a block of a label ends the run of its thread; one that enters another does so where it is no
-- closure
abbrev pub ending : ℕ → Next → Out
ending label (Enters closure value) = out.Wrong label
ending label (Asks primitive argument next) = out.Asks primitive argument next
ending label (Sends world closure value) = out.Sends world closure value label
ending label Ended = out.Ended
ending label FullRegion = out.FullRegion
ending label FullTable = out.FullTable
ending label NoCase = out.Wrong label

-- the closure and the value that a thread goes on with
abbrev pub entering : Next → Option (Value × Value)
entering (Enters closure value) = Some (closure, value)
entering (Asks primitive argument next) = None
entering (Sends world closure value) = None
entering Ended = None
entering FullRegion = None
entering FullTable = None
entering NoCase = None

-- the block that the thread goes on with, if any
abbrev pub next_block : Flat → List Object → Option (Value × Value) → Option Target
next_block code os None = None
next_block code os (Some to) = entry code os to.0

abbrev pub going : Option Target → Option (Value × Value) → ℕ → Next → Bench → (Value → Value →
    Target → Bench → Out × Bench) → Out × Bench
going None to label next bench go = (ending label next, bench)
going (Some target) None label next bench go = (ending label next, bench)
going (Some target) (Some to) label next bench go = go to.0 to.1 target bench

abbrev pub after_block : Flat → ℕ → Next → Bench → (Value → Value → Target → Bench →
    Out × Bench) → Out × Bench
after_block code label next bench go =
    going (next_block code bench.region.objects (entering next)) (entering next) label next bench go

-- a block is entered, and then those after it, up to the end of the run
unfoldable pub run_from : Flat → ℕ → Value → Value → Target → Bench → Out × Bench
run_from code zero closure value to bench = (out.Spent, bench)
run_from code (suc fuel) closure value to bench =
    let r = run_block code closure value to.start (record bench { fuel = fuel }) in
    after_block code to.label r.0 r.1 (run_from code fuel)

-- The front thread's run. A machine is run where there is a thread and its code is a closure; the
-- other cases are there to make it a function.
abbrev pub run_entered : Flat → Ready → Option Target → Bench → Out × Bench
run_entered code t None bench = (out.Ended, bench)
run_entered code t (Some to) bench = run_from code bench.fuel t.code t.argument to bench

abbrev pub run_threads : Flat → List Ready → Bench → Out × Bench
run_threads code [] bench = (out.Ended, bench)
run_threads code (t ∷ ts) bench =
    run_entered code t (entry code bench.region.objects t.code) (record bench { threads = ts })

abbrev pub run : Flat → Bench → Out × Bench
run code bench = run_threads code bench.threads bench

-- the values in what came of a run refer to objects of their kinds; an ask's are what it takes
abbrev pub OutFits : Flat → List Object → Out → Type 0
OutFits code os (out.Asks primitive argument next) = AskFits code os primitive argument next
OutFits code os (out.Sends world closure value label) = Refers os closure × Refers os value
OutFits code os out.Ended = Unit {0}
OutFits code os out.Spent = Unit {0}
OutFits code os out.FullRegion = Unit {0}
OutFits code os out.FullTable = Unit {0}
OutFits code os (out.Wrong label) = Unit {0}
