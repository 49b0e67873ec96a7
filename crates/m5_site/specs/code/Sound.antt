-- What holds of a site between its calls.
use Rattle.std.specs.Prelude.{◌≡◌, List, Option, Some, None, IsTrue, IsSome, All}
use Rattle.m5_region.specs.declared.value.Ref.{Ref}
use Rattle.m5_region.specs.declared.value.Value.{Value}
use Rattle.m5_region.specs.Region.{Object, Refers}
use Rattle.m5_machine.specs.Blocks.{Flat}
use Rattle.m5_machine.specs.Block.{AskFits}
use Rattle.m5_machine.specs.Closure.{IsSound, entry}
use Rattle.m5_site.specs.declared.state.State.{State}
use Rattle.m5_site.specs.declared.state.Wait.{Wait}
use Rattle.m5_site.specs.declared.state.Wait.TheVariants as waits
use Rattle.m5_site.specs.Object.{Bundle}
use Rattle.m5_site.specs.Sending.{has_bytes}
use Rattle.m5_site.specs.Making.{with_new}

-- a closure of the code, in these objects
pub record IsClosureIn (code : Flat) (os : List Object) (v : Value) : Type 0 where
  pub refers : Refers os v
  pub closure : IsSome (entry code os v)

-- what the bench and the handlers refer to is there, and each thread and handler is a closure
pub record IsSoundState (code : Flat) (x : State) : Type 0 where
  pub bench : IsSound code x.bench
  pub handlers : All (IsClosureIn code x.bench.region.objects) x.handlers

-- what a site waits for refers to what is there
abbrev pub WaitFits : Bundle → Flat → State → Wait → Type 0
WaitFits O code x waits.Nothing = Unit {0}
WaitFits O code x (waits.Call p argument next) = AskFits code x.bench.region.objects p argument next
WaitFits O code x (waits.Send v thread) = IsTrue (has_bytes O.dicts x.bench.region.objects thread)
WaitFits O code x waits.Take = Unit {0}
WaitFits O code x (waits.Stop c) = Unit {0}
WaitFits O code x (waits.Wrong label) = Unit {0}

-- the objects grow at the end, so what refers to some of them still does
pub record Grows (old new : State) : Type 0 where
  pub refers : (v : Value) → Refers old.bench.region.objects v → Refers new.bench.region.objects v
  pub closures : (code : Flat) (v : Value) → IsClosureIn code old.bench.region.objects v → IsClosureIn code new.bench.region.objects v
  pub sound : (code : Flat) → IsSoundState code old → IsSoundState code new

-- what came of an object about to be added: all that goes on with it goes on so
abbrev pub Makes : State → Object → (Ref → Value) → Option Value → State → Type 0
Makes old o v None new = (go : Value → State → State) → with_new o v old go ≡ new
Makes old o v (Some x) new = (go : Value → State → State) → with_new o v old go ≡ go x new

-- a sound site stays sound, where this is a closure
abbrev pub KeepsSound : Value → State → State → Type 0
KeepsSound v old new = (code : Flat) → IsSoundState code old → IsClosureIn code old.bench.region.objects v → IsSoundState code new
