-- A site whose region has objects more.
use Rattle.std.proofs.Common.{◌≡◌, ℕ, zero, suc, List, [], ◌∷◌, ◌++◌, refl, ap, sym, subst, Option, slice_get, IsSome, IsSomeAnd}
use Rattle.std.specs.List.{All}
use Rattle.std.proofs.lemmas.List.Elements.{All-weaker}
use Rattle.m5_region.specs.declared.value.Value.{Value}
use Rattle.m5_region.specs.declared.value.Value.TheVariants.{Null, Bool as Truth, Int, Text, Array}
use Rattle.m5_region.specs.declared.queue.Ready.{Ready}
use Rattle.m5_region.specs.Region.{Contents, Object, Refers, IsArray, IsText, place_in, fields_in}
use Rattle.m5_machine.specs.Blocks.{Flat, start_of}
use Rattle.m5_machine.specs.Operand.{with_one, int_in}
use Rattle.m5_machine.specs.Closure.{entry, entry_at, label_in, CanRun}
use Rattle.m5_site.specs.declared.state.State.{State}
use Rattle.m5_site.specs.Making.{with_region}
use Rattle.m5_site.specs.code.Sound.{IsClosureIn, IsSoundState, Grows}

-- ---- references and closures where objects are added at the end

get_front : (P : Object → Type 0) (os more : List Object) (n : ℕ) → IsSomeAnd (slice_get os n) P → slice_get (os ++ more) n ≡ slice_get os n
get_front P [] more n h = absurd h
get_front P (p ∷ os) more zero h = refl
get_front P (p ∷ os) more (suc n) h = get_front P os more n h

there_front : (P : Object → Type 0) (os more : List Object) (n : ℕ) → IsSomeAnd (slice_get os n) P → IsSomeAnd (slice_get (os ++ more) n) P
there_front P os more n h = subst (λ (x : Option Object). IsSomeAnd x P) (sym (get_front P os more n h)) h

pub refers_on : (os more : List Object) (v : Value) → Refers os v → Refers (os ++ more) v
refers_on os more Null h = tt
refers_on os more (Truth b) h = tt
refers_on os more (Int n) h = tt
refers_on os more (Text r) h = there_front IsText os more r.0 h
refers_on os more (Array r) h = there_front IsArray os more r.0 h

pub entry_on : (code : Flat) (os more : List Object) (v : Value) → Refers os v → entry code (os ++ more) v ≡ entry code os v
entry_on code os more Null h = refl
entry_on code os more (Truth b) h = refl
entry_on code os more (Int n) h = refl
entry_on code os more (Text r) h = refl
entry_on code os more (Array r) h =
    ap (λ (x : Option Object). with_one (int_in (place_in (fields_in x) 0)) (λ n. with_one (label_in n) (λ label. entry_at label (start_of code label)))) (get_front IsArray os more r.0 h)

pub closure_on : (code : Flat) (os more : List Object) (v : Value) → IsClosureIn code os v → IsClosureIn code (os ++ more) v
closure_on code os more v h = record { refers = refers_on os more v h.refers; closure = subst IsSome (sym (entry_on code os more v h.refers)) h.closure }

-- a closure with an argument may run
pub may_run : (code : Flat) (os : List Object) (v argument : Value) → IsClosureIn code os v → Refers os argument → CanRun code os (record { code = v; argument = argument })
may_run code os v argument h r = record { code_refers = h.refers; argument_refers = r; closure = h.closure }

can_run_on : (code : Flat) (os more : List Object) (t : Ready) → CanRun code os t → CanRun code (os ++ more) t
can_run_on code os more t h = record {
  code_refers = refers_on os more t.code h.code_refers;
  argument_refers = refers_on os more t.argument h.argument_refers;
  closure = subst IsSome (sym (entry_on code os more t.code h.code_refers)) h.closure;
}

-- a site whose region has objects more
sound_on : (code : Flat) (x : State) (r : Contents) (more : List Object) → r.objects ≡ x.bench.region.objects ++ more → IsSoundState code x → IsSoundState code (with_region r x)
sound_on code x r more e h =
    let os = x.bench.region.objects in
    record {
      bench = record {
        cells = subst (λ (y : List Object). All (Refers y) x.bench.cells) (sym e) (All-weaker (Refers os) (Refers (os ++ more)) (refers_on os more) x.bench.cells h.bench.cells);
        threads = subst (λ (y : List Object). All (CanRun code y) x.bench.threads) (sym e) (All-weaker (CanRun code os) (CanRun code (os ++ more)) (can_run_on code os more) x.bench.threads h.bench.threads);
      };
      handlers = subst (λ (y : List Object). All (IsClosureIn code y) x.handlers) (sym e) (All-weaker (IsClosureIn code os) (IsClosureIn code (os ++ more)) (closure_on code os more) x.handlers h.handlers);
    }

pub grows_on : (x : State) (r : Contents) (more : List Object) → r.objects ≡ x.bench.region.objects ++ more → Grows x (with_region r x)
grows_on x r more e =
    let os = x.bench.region.objects in
    record {
      refers = λ v h. subst (λ (y : List Object). Refers y v) (sym e) (refers_on os more v h);
      closures = λ code v h. subst (λ (y : List Object). IsClosureIn code y v) (sym e) (closure_on code os more v h);
      sound = λ code h. sound_on code x r more e h;
    }
