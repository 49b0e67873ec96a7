-- A thread that ends has entered a block, which cost one of the fuel.
use Rattle.std.proofs.Common.{◌≡◌, ℕ, zero, suc, ◌<◌, List, [], ◌∷◌, length, refl, ap, subst, arith, ◌∙◌, Option, Some, None, Bool, true, false, IsSome, slice_get}
use Rattle.std.specs.List.{All}
use Rattle.std.proofs.lemmas.List.Elements.{All-head}
use Rattle.m5_region.specs.declared.value.Value.{Value}
use Rattle.m5_region.specs.declared.queue.Ready.{Ready}
use Rattle.m5_region.specs.declared.bench.Bench.{Bench}
use Rattle.m5_region.specs.declared.out.Out.{Out}
use Rattle.m5_region.specs.declared.out.Out.TheVariants as out
use Rattle.m5_machine.specs.declared.step.Instruction.{Instruction}
use Rattle.m5_machine.specs.declared.step.Instruction.TheVariants as i
use Rattle.m5_machine.specs.declared.made.Made.{Made}
use Rattle.m5_machine.specs.declared.made.Made.TheVariants as mades
use Rattle.m5_machine.specs.declared.closure.Target.{Target}
use Rattle.m5_machine.specs.declared.next.Next.{Next}
use Rattle.m5_machine.specs.Body.{Body, Then, If, Go, Ask, Send, Done}
use Rattle.m5_machine.specs.Blocks.{Flat, body_at}
use Rattle.m5_machine.specs.Operand.{bool_in}
use Rattle.m5_machine.specs.Closure.{CanRun, IsSound, entry}
use Rattle.m5_machine.specs.Table.{made}
use Rattle.m5_machine.specs.Block.{run_body, and_then, filling, fill_with, choice}
use Rattle.m5_machine.specs.Run.{run, run_from, run_block, run_entered, run_threads, going, next_block, entering}

made_fuel : (code : Flat) (x : Instruction) (bench : Bench) → (made code x bench).1.fuel ≡ bench.fuel
made_fuel code i.Unit bench = refl
made_fuel code (i.Bool b) bench = refl
made_fuel code (i.Int n) bench = refl
made_fuel code (i.Text bytes) bench = refl
made_fuel code (i.Array slots) bench = refl
made_fuel code (i.Field s place) bench = refl
made_fuel code (i.Add a b) bench = refl
made_fuel code (i.Sub a b) bench = refl
made_fuel code (i.Mul a b) bench = refl
made_fuel code (i.Quo a b) bench = refl
made_fuel code (i.Cat a b) bench = refl
made_fuel code (i.Str a) bench = refl
made_fuel code (i.Less a b) bench = refl
made_fuel code (i.EqualInts a b) bench = refl
made_fuel code (i.EqualTexts a b) bench = refl
made_fuel code (i.Same a b) bench = refl
made_fuel code (i.Cell s) bench = refl
made_fuel code (i.Load s) bench = refl
made_fuel code (i.Store s v) bench = refl
made_fuel code (i.Spawn s) bench = refl

fill_fuel : (m : Made) (bench : Bench) → (fill_with m bench).1.fuel ≡ bench.fuel
fill_fuel (mades.Gives v) bench = refl
fill_fuel mades.NoRegion bench = refl
fill_fuel mades.NoTable bench = refl
fill_fuel mades.NoCase bench = refl

filling_fuel : (code : Flat) (x : Instruction) (bench : Bench) → (filling code x bench).1.fuel ≡ bench.fuel
filling_fuel code x bench = fill_fuel (made code x bench).0 (made code x bench).1 ∙ made_fuel code x bench

then_fuel : (m : Option Next) (bench : Bench) (go : Bench → Next × Bench) → ((b : Bench) → (go b).1.fuel ≡ b.fuel) → (and_then m bench go).1.fuel ≡ bench.fuel
then_fuel None bench go h = h bench
then_fuel (Some next) bench go h = refl

choice_fuel : (m : Option Bool) (bench : Bench) (p q : Next × Bench) → p.1.fuel ≡ bench.fuel → q.1.fuel ≡ bench.fuel → (choice m bench p q).1.fuel ≡ bench.fuel
choice_fuel None bench p q e f = refl
choice_fuel (Some true) bench p q e f = e
choice_fuel (Some false) bench p q e f = f

body_fuel : (code : Flat) (b : Body) (bench : Bench) → (run_body code b bench).1.fuel ≡ bench.fuel
unfolding run_body
body_fuel code (Then x b) bench = then_fuel (filling code x bench).0 (filling code x bench).1 (run_body code b) (body_fuel code b) ∙ filling_fuel code x bench
body_fuel code (If s a b) bench = choice_fuel (bool_in (slice_get bench.slots s)) bench (run_body code a bench) (run_body code b bench) (body_fuel code a bench) (body_fuel code b bench)
body_fuel code (Go c v) bench = refl
body_fuel code (Ask p a n) bench = refl
body_fuel code (Send w c v) bench = refl
body_fuel code Done bench = refl

block_fuel : (code : Flat) (c v : Value) (start : ℕ) (bench : Bench) → (run_block code c v start bench).1.fuel ≡ bench.fuel
block_fuel code c v start bench = body_fuel code (body_at code start) (record bench { slots = c ∷ v ∷ [] })

going_less : (t : Option Target) (to : Option (Value × Value)) (label fuel : ℕ) (next : Next) (bench : Bench) (go : Value → Value → Target → Bench → Out × Bench) → bench.fuel ≡ fuel → ((x y : Value) (z : Target) → (go x y z bench).0 ≡ out.Ended → (go x y z bench).1.fuel < fuel) → (going t to label next bench go).0 ≡ out.Ended → (going t to label next bench go).1.fuel < suc fuel
going_less None to label fuel next bench go e h ended = omega (arith, e)
going_less (Some t) None label fuel next bench go e h ended = omega (arith, e)
going_less (Some t) (Some to) label fuel next bench go e h ended = omega (arith, h to.0 to.1 t ended)

from_less : (code : Flat) (fuel : ℕ) (c v : Value) (to : Target) (bench : Bench) → bench.fuel ≡ fuel → (run_from code fuel c v to bench).0 ≡ out.Ended → (run_from code fuel c v to bench).1.fuel < fuel
unfolding run_from
from_less code zero c v to bench e ended = absurd (let wrong : out.Spent ≡ out.Ended = ended in cc)
from_less code (suc fuel) c v to bench e ended =
    let r = run_block code c v to.start (record bench { fuel = fuel }) in
    let kept : r.1.fuel ≡ fuel = block_fuel code c v to.start (record bench { fuel = fuel }) in
    going_less (next_block code r.1.region.objects (entering r.0)) (entering r.0) to.label fuel r.0 r.1 (run_from code fuel) kept (λ x y z. from_less code fuel x y z r.1 kept) ended

entered_less : (code : Flat) (t : Ready) (m : Option Target) (bench : Bench) → IsSome m → (run_entered code t m bench).0 ≡ out.Ended → (run_entered code t m bench).1.fuel < bench.fuel
entered_less code t None bench s ended = absurd (let wrong : false ≡ true = s in cc)
entered_less code t (Some to) bench s ended = from_less code bench.fuel t.code t.argument to bench refl ended

threads_less : (code : Flat) (ts : List Ready) (bench : Bench) → All (CanRun code bench.region.objects) ts → 0 < length ts → (run_threads code ts bench).0 ≡ out.Ended → (run_threads code ts bench).1.fuel < bench.fuel
threads_less code [] bench s l ended = absurd (omega arith)
threads_less code (t ∷ ts) bench s l ended =
    let first = All-head (CanRun code bench.region.objects) t ts s in
    entered_less code t (entry code bench.region.objects t.code) (record bench { threads = ts }) first.closure ended

pub run_less : (code : Flat) (old new : Bench) (o : Out) → IsSound code old → 0 < length old.threads → run code old ≡ (o, new) → o ≡ out.Ended → new.fuel < old.fuel
run_less code old new o s l e ended =
    let less = threads_less code old.threads old s.threads l in
    let is : (run code old).0 ≡ out.Ended = ap (λ (p : Out × Bench). p.0) e ∙ ended in
    subst (λ (p : Out × Bench). p.1.fuel < old.fuel) e (less is)
