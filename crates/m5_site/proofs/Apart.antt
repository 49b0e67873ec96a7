-- Stops that sites ask for and stops that a run chooses stand apart.
use Rattle.std.proofs.Common.{◌≡◌, ℕ, ◌==◌, Bool, true, false, cond, List, length, refl, subst, Option, Some, None}
use Rattle.m5_region.specs.declared.value.Value.{Value}
use Rattle.m5_region.specs.Region.{Object}
use Rattle.m5_terms.specs.Machine.{Next, asks}
use Rattle.m5_terms.specs.declared.types.World.{World}
use Rattle.m5_terms.specs.declared.ask.Cause.TheVariants.{Spent, Region, Table}
use Rattle.m5_terms.specs.declared.ask.AskOf.TheVariants as ask
use Rattle.m5_network.specs.Laws.{StopsApart}
use Rattle.m5_site.specs.declared.state.Limits.{Limits}
use Rattle.m5_site.specs.declared.state.State.{State}
use Rattle.m5_site.specs.declared.state.Wait.{Wait}
use Rattle.m5_site.specs.declared.state.Wait.TheVariants as waits
use Rattle.m5_site.specs.Object.{Bundle}
use Rattle.m5_site.specs.Answers.{Reply}
use Rattle.m5_site.specs.Site.{Query, called, next_of, moved}
use Rattle.m5_site.specs.Kind.{object_kind}

-- no answer goes on from a stop, but from one by a full table
abbrev Apart : Next State Query Reply → Type 0
Apart (asks (ask.Stop c) f) = (r : Reply) (y : State) → f r ≡ Some y → c ≡ Table
Apart _ = Unit {0}

either : (b : Bool) (p q : Query) (f : Reply → Option State) → Apart (asks p f) → Apart (asks q f) → Apart (asks (cond b p q) f)
either true p q f h k = h
either false p q f h k = k

called_apart : (os : List Object) (n p : ℕ) (v : Value) (f : Reply → Option State) → Apart (asks (called os n p v) f)
called_apart os n p v f =
    either (p == 0) _ _ f tt
    (either (p == 1) _ _ f tt
    (either (p == 2) _ _ f tt
    (either (p == 3) _ _ f tt
    (either (p == 4) _ _ f tt
    (either (p == 5) _ _ f tt
    (either (p == 6) _ _ f tt tt))))))

wait_apart : (O : Bundle) (s : ℕ) (w : World) (wait : Wait) (x : State) → Apart (next_of O s w wait x)
wait_apart O s w waits.Nothing x = tt
wait_apart O s w (waits.Call p argument next) x = called_apart x.bench.region.objects (length x.handlers) p argument _
wait_apart O s w (waits.Send v thread) x = tt
wait_apart O s w waits.Take x = tt
wait_apart O s w (waits.Stop Spent) x = λ r y g. absurd (let none : None ≡ Some y = g in cc)
wait_apart O s w (waits.Stop Region) x = λ r y g. absurd (let none : None ≡ Some y = g in cc)
wait_apart O s w (waits.Stop Table) x = λ r y g. refl
wait_apart O s w (waits.Wrong label) x = tt

pub stops_apart : (O : Bundle) (n : Limits) → StopsApart (object_kind O n)
stops_apart O n = record {
  asked = λ s w x y c f r e g. subst Apart e (wait_apart O s w (moved O w x).0 (moved O w x).1) r y g;
  chosen = λ s w x l. l.chosen refl;
}
