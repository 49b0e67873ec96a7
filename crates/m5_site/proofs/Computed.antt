-- Local steps of a site, one after the other, and what each keeps.
use Rattle.std.proofs.Common.{◌≡◌, ℕ, zero, suc, ◌<◌, arith, List, [], ◌∷◌, ◌++◌, length, refl, sym, ap, subst, ◌∙◌, Bool, true, false, ◌||◌, ◌==◌, Option, Some, None, IsTrue, IsSome, Result, Ok, Err, IfOk}
use Rattle.std.proofs.lemmas.Bool.{eqb-true, and_parts}
use Rattle.m5_region.specs.declared.value.Value.{Value}
use Rattle.m5_region.specs.Region.{Object}
use Rattle.m5_machine.specs.Blocks.{Flat}
use Rattle.std.specs.List.{All}
use Rattle.std.proofs.lemmas.List.Elements.{All-weaker}
use Rattle.m5_region.specs.declared.queue.Ready.{Ready}
use Rattle.m5_region.specs.declared.bench.Bench.{Bench}
use Rattle.m5_region.specs.declared.out.Out.{Out}
use Rattle.m5_terms.specs.declared.ask.Cause.{Cause}
use Rattle.m5_machine.specs.Run.{run}
use Rattle.m5_machine.specs.Closure.{entry, is_closure, IsSound}
use Rattle.m5_machine.specs.Primitive.{takes, two_parts, both_fit, is_text}
use Rattle.m5_terms.specs.Machine.{goes, Comes}
use Rattle.m5_terms.specs.declared.types.World.{World}
use Rattle.m5_site.specs.declared.state.State.{State}
use Rattle.m5_site.specs.declared.state.Wait.{Wait}
use Rattle.m5_site.specs.declared.state.Wait.TheVariants as waits
use Rattle.m5_site.specs.Object.{Bundle, code_of}
use Rattle.m5_site.specs.Site.{moved, moved_by, led, came, with_bench, site_next, next_of, adds_handler, second_of}
use Rattle.m5_site.specs.code.Sound.{IsClosureIn, IsSoundState}
use Rattle.m5_site.proofs.Made.{closure_on}
use Rattle.m5_site.proofs.Growing.{run_grows}

pub longer : (O : Bundle) (s : ℕ) (w : World) (n : ℕ) (a b c : State) → Comes (site_next O s w) n a b → site_next O s w b ≡ goes c → Comes (site_next O s w) (suc n) a c
longer O s w zero a b c h e = (c, ap (site_next O s w) h ∙ e, refl)
longer O s w (suc n) a b c h e = (h.0, h.1, longer O s w n h.0 b c h.2 e)

pub goes_to : (O : Bundle) (s : ℕ) (w : World) (x y : State) (wait : Wait) → moved O w x ≡ (wait, y) → wait ≡ waits.Nothing → site_next O s w x ≡ goes y
goes_to O s w x y wait e n =
    ap (λ (p : Wait × State). next_of O s w p.0 p.1) e ∙ ap (λ (v : Wait). next_of O s w v y) n

pub differ : (b : Bool) → b ≡ false → b ≡ true → ⊥
differ b h e = let wrong : false ≡ true = sym h ∙ e in cc

-- what a site waits for, by whether it is to stop and has a thread

pub moved_due : (O : Bundle) (w : World) (x : State) (c : Cause) → x.due ≡ Some c → moved O w x ≡ (waits.Stop c, x)
unfolding moved
moved_due O w x c e = ap (λ (d : Option Cause). moved_by O w d x) e

led_idle : (O : Bundle) (w : World) (ts : List Ready) (x : State) → length ts ≡ 0 → led O w ts x ≡ (waits.Take, x)
led_idle O w [] x e = refl
led_idle O w (t ∷ ts) x e = absurd (omega (arith, e))

led_on : (O : Bundle) (w : World) (ts : List Ready) (x : State) (o : Out) (b : Bench) → 0 < length ts → run (code_of O w) x.bench ≡ (o, b) → led O w ts x ≡ came O o (with_bench b x)
led_on O w [] x o b l e = absurd (omega arith)
led_on O w (t ∷ ts) x o b l e = ap (λ (r : Out × Bench). came O r.0 (with_bench r.1 x)) e

pub moved_idle : (O : Bundle) (w : World) (x : State) → x.due ≡ None → length x.bench.threads ≡ 0 → moved O w x ≡ (waits.Take, x)
unfolding moved
moved_idle O w x e l = ap (λ (d : Option Cause). moved_by O w d x) e ∙ led_idle O w x.bench.threads x l

pub moved_on : (O : Bundle) (w : World) (x y : State) (o : Out) (b : Bench) (wait : Wait) → x.due ≡ None → 0 < length x.bench.threads → run (code_of O w) x.bench ≡ (o, b) → came O o (with_bench b x) ≡ (wait, y) → moved O w x ≡ (wait, y)
unfolding moved
moved_on O w x y o b wait e l r c = ap (λ (d : Option Cause). moved_by O w d x) e ∙ led_on O w x.bench.threads x o b l r ∙ c

-- handlers are closures after a run, since the objects only grow
pub ran_sound : (code : Flat) (x : State) (o : Out) (b : Bench) → run code x.bench ≡ (o, b) → IsSound code b → IsSoundState code x → IsSoundState code (with_bench b x)
ran_sound code x o b r s h =
    let more = run_grows code x.bench o b r in
    let os = x.bench.region.objects in
    record {
      bench = s;
      handlers = subst (λ (y : List Object). All (IsClosureIn code y) x.handlers) (sym more.1) (All-weaker (IsClosureIn code os) (IsClosureIn code (os ++ more.0)) (closure_on code os more.0) x.handlers h.handlers);
    }

-- the handler of a call is a closure

second_fits : (code : Flat) (os : List Object) (m : Option (Value × Value)) → both_fit m is_text (is_closure code os) ≡ true → IsSome (entry code os (second_of m))
second_fits code os None h = absurd (let wrong : false ≡ true = h in cc)
second_fits code os (Some p) h = (and_parts _ _ h).1

pub handler_enters : (code : Flat) (os : List Object) (p : ℕ) (v : Value) → adds_handler p ≡ true → IsTrue (takes code os p v) → IsSome (entry code os (second_of (two_parts os v)))
handler_enters code os p v a h = by_code (p == 3) refl (p == 6) refl a
  where
    third : p ≡ 3 → IsSome (entry code os (second_of (two_parts os v)))
    third e = second_fits code os (two_parts os v) (subst (λ (n : ℕ). takes code os n v ≡ true) e h)

    sixth : p ≡ 6 → IsSome (entry code os (second_of (two_parts os v)))
    sixth e = second_fits code os (two_parts os v) (subst (λ (n : ℕ). takes code os n v ≡ true) e h)

    by_code : (b : Bool) → (p == 3) ≡ b → (c : Bool) → (p == 6) ≡ c → (b || c) ≡ true → IsSome (entry code os (second_of (two_parts os v)))
    by_code true e c f k = third (eqb-true p 3 e)
    by_code false e true f k = sixth (eqb-true p 6 f)
    by_code false e false f k = absurd (let wrong : false ≡ true = k in cc)

-- what follows from what an answer ensures

pub if_ok : {A B : Type 0} (P Q : A → Type 0) (r : Result A B) → ((x : A) → P x → Q x) → IfOk r P → IfOk r Q
if_ok P Q (Ok x) f h = f x h
if_ok P Q (Err e) f h = tt

pub if_both : {A B : Type 0} (P Q R : A → Type 0) (r : Result A B) → ((x : A) → P x → Q x → R x) → IfOk r P → IfOk r Q → IfOk r R
if_both P Q R (Ok x) f h k = f x h k
if_both P Q R (Err e) f h k = tt
