-- A run adds objects behind the others.
use Rattle.std.proofs.Common.{◌≡◌, ℕ, zero, suc, ◌-◌, List, [], ◌∷◌, ◌++◌, length, append-nil, append_assoc, nat_lt, cond, refl, sym, ap, subst, ◌∙◌, Option, Some, None, Bool, true, false, slice_get}
use Rattle.m5_region.specs.declared.value.Value.{Value}
use Rattle.m5_region.specs.declared.queue.Ready.{Ready}
use Rattle.m5_region.specs.declared.bench.Bench.{Bench}
use Rattle.m5_region.specs.declared.out.Out.{Out}
use Rattle.m5_machine.specs.declared.step.Instruction.{Instruction}
use Rattle.m5_machine.specs.declared.step.Instruction.TheVariants as i
use Rattle.m5_machine.specs.declared.made.Made.{Made}
use Rattle.m5_machine.specs.declared.made.Made.TheVariants as mades
use Rattle.m5_machine.specs.declared.closure.Target.{Target}
use Rattle.m5_machine.specs.declared.next.Next.{Next}
use Rattle.m5_machine.specs.Body.{Body, Then, If, Go, Ask, Send, Done}
use Rattle.m5_machine.specs.Blocks.{Flat, body_at}
use Rattle.m5_machine.specs.Operand.{bool_in}
use Rattle.m5_machine.specs.Closure.{entry}
use Rattle.m5_region.specs.declared.value.Ref.{Ref}
use Rattle.m5_region.specs.declared.value.Value.TheVariants as values
use Rattle.m5_region.specs.Region.{Contents, Object, TextOf, units_of}
use Rattle.m5_machine.specs.Table.{made, with_object, added, array_of, joined_text, decimal_text}
use Rattle.m5_machine.specs.Block.{run_body, and_then, filling, fill_with, choice}
use Rattle.m5_machine.specs.Run.{run, run_from, run_block, run_entered, run_threads, going, next_block, entering}

-- one list goes on where the other ends
abbrev pub Grown : List Object → List Object → Type 0
Grown a b = (more : List Object) × (b ≡ a ++ more)

same : (a : List Object) → Grown a a
same a = ([], sym (append-nil a))

longer : (a b c : List Object) → Grown a b → Grown b c → Grown a c
longer a b c g h = (g.0 ++ h.0, h.1 ∙ ap (λ (x : List Object). x ++ h.0) g.1 ∙ append_assoc a g.0 h.0)

object_grows : (r : Contents) (o : Object) (v : Ref → Value) → Grown r.objects (with_object r o v).1.objects
object_grows r o v = by_test (nat_lt r.left (units_of o))
  where
    by_test : (b : Bool) → Grown r.objects (cond {A = Made × Contents} b (mades.NoRegion, r) (mades.Gives (v (record { 0 = length r.objects })), record { objects = r.objects ++ o ∷ []; left = r.left - units_of o })).1.objects
    by_test true = same r.objects
    by_test false = (o ∷ [], refl)

added_grows : (r : Contents) (o : Option Object) (v : Ref → Value) → Grown r.objects (added r o v).1.objects
added_grows r None v = same r.objects
added_grows r (Some o) v = object_grows r o v

made_grows : (code : Flat) (x : Instruction) (bench : Bench) → Grown bench.region.objects (made code x bench).1.region.objects
made_grows code (i.Text bytes) bench = object_grows bench.region (TextOf bytes) values.Text
made_grows code (i.Array slots) bench = added_grows bench.region (array_of bench.slots slots) values.Array
made_grows code (i.Cat a b) bench = added_grows bench.region (joined_text bench.region.objects bench.slots a b) values.Text
made_grows code (i.Str a) bench = added_grows bench.region (decimal_text bench.slots a) values.Text
made_grows code x bench = same bench.region.objects

fill_grows : (m : Made) (bench : Bench) → (fill_with m bench).1.region ≡ bench.region
fill_grows (mades.Gives v) bench = refl
fill_grows mades.NoRegion bench = refl
fill_grows mades.NoTable bench = refl
fill_grows mades.NoCase bench = refl

filling_grows : (code : Flat) (x : Instruction) (bench : Bench) → Grown bench.region.objects (filling code x bench).1.region.objects
filling_grows code x bench = subst (λ (r : Contents). Grown bench.region.objects r.objects) (sym (fill_grows (made code x bench).0 (made code x bench).1)) (made_grows code x bench)

then_grows : (m : Option Next) (bench : Bench) (go : Bench → Next × Bench) → ((b : Bench) → Grown b.region.objects (go b).1.region.objects) → Grown bench.region.objects (and_then m bench go).1.region.objects
then_grows None bench go h = h bench
then_grows (Some next) bench go h = same bench.region.objects

choice_grows : (m : Option Bool) (bench : Bench) (p q : Next × Bench) → Grown bench.region.objects p.1.region.objects → Grown bench.region.objects q.1.region.objects → Grown bench.region.objects (choice m bench p q).1.region.objects
choice_grows None bench p q e f = same bench.region.objects
choice_grows (Some true) bench p q e f = e
choice_grows (Some false) bench p q e f = f

body_grows : (code : Flat) (b : Body) (bench : Bench) → Grown bench.region.objects (run_body code b bench).1.region.objects
unfolding run_body
body_grows code (Then x b) bench =
    longer _ _ _ (filling_grows code x bench) (then_grows (filling code x bench).0 (filling code x bench).1 (run_body code b) (body_grows code b))
body_grows code (If s a b) bench = choice_grows (bool_in (slice_get bench.slots s)) bench (run_body code a bench) (run_body code b bench) (body_grows code a bench) (body_grows code b bench)
body_grows code (Go c v) bench = same bench.region.objects
body_grows code (Ask p a n) bench = same bench.region.objects
body_grows code (Send w c v) bench = same bench.region.objects
body_grows code Done bench = same bench.region.objects

going_grows : (os : List Object) (t : Option Target) (to : Option (Value × Value)) (label : ℕ) (next : Next) (bench : Bench) (go : Value → Value → Target → Bench → Out × Bench) → Grown os bench.region.objects → ((x y : Value) (z : Target) → Grown bench.region.objects (go x y z bench).1.region.objects) → Grown os (going t to label next bench go).1.region.objects
going_grows os None to label next bench go e h = e
going_grows os (Some t) None label next bench go e h = e
going_grows os (Some t) (Some to) label next bench go e h = longer _ _ _ e (h to.0 to.1 t)

from_grows : (code : Flat) (fuel : ℕ) (c v : Value) (to : Target) (bench : Bench) → Grown bench.region.objects (run_from code fuel c v to bench).1.region.objects
unfolding run_from
from_grows code zero c v to bench = same bench.region.objects
from_grows code (suc fuel) c v to bench =
    let r = run_block code c v to.start (record bench { fuel = fuel }) in
    going_grows bench.region.objects (next_block code r.1.region.objects (entering r.0)) (entering r.0) to.label r.0 r.1 (run_from code fuel)
    (body_grows code (body_at code to.start) (record bench { fuel = fuel; slots = c ∷ v ∷ [] })) (λ x y z. from_grows code fuel x y z r.1)

entered_grows : (code : Flat) (t : Ready) (m : Option Target) (bench : Bench) → Grown bench.region.objects (run_entered code t m bench).1.region.objects
entered_grows code t None bench = same bench.region.objects
entered_grows code t (Some to) bench = from_grows code bench.fuel t.code t.argument to bench

threads_grow : (code : Flat) (ts : List Ready) (bench : Bench) → Grown bench.region.objects (run_threads code ts bench).1.region.objects
threads_grow code [] bench = same bench.region.objects
threads_grow code (t ∷ ts) bench = entered_grows code t (entry code bench.region.objects t.code) (record bench { threads = ts })

pub run_grows : (code : Flat) (old : Bench) (o : Out) (new : Bench) → run code old ≡ (o, new) → Grown old.region.objects new.region.objects
run_grows code old o new e = subst (λ (p : Out × Bench). Grown old.region.objects p.1.region.objects) e (threads_grow code old.threads old)
