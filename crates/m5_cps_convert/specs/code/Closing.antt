-- Closures whose steps are written before their places are known, and continuations that are made here.
use Rattle.std.specs.Prelude.{◌≡◌, ◌<◌, ◌++◌, ℕ, suc, [], ◌∷◌, length, Option, Some, None, slice_set}
use Rattle.m5_cps.specs.declared.entry.Entry.{Entry}
use Rattle.m5_cps.specs.declared.step.Step.{Step}
use Rattle.m5_cps.specs.declared.step.Step.TheVariants as steps
use Rattle.m5_cps.specs.declared.step.Ending.TheVariants as endings
use Rattle.m5_cps_convert.specs.declared.walk.Walk.{Walk}
use Rattle.m5_cps_convert.specs.declared.walk.Goal.{Goal}
use Rattle.m5_cps_convert.specs.declared.walk.Goal.TheVariants as goals
use Rattle.m5_cps_convert.specs.declared.walk.Value.{Value}
use Rattle.m5_cps_convert.specs.declared.closing.Pending.{Pending}
use Rattle.m5_cps_convert.specs.declared.closing.Held.{Held}

-- a step that says nothing yet stands at the end
pub record Opens (old new : Walk) (o : Pending) : Type 0 where
  pub step : Step
  pub steps : new ≡ record old { steps = old.steps ++ step ∷ [] }
  pub place : o.place ≡ length old.steps
  pub behind : o.behind ≡ suc (length old.steps)

-- the closure's block stands right behind it, and the code goes on at the end
pub record Behind (old new : Walk) (o : Pending) (y : Entry) : Type 0 where
  pub steps : new ≡ record old { steps = slice_set old.steps o.place (steps.Closure y o.behind (length old.steps)) }

-- the code goes on right behind the closure, and its block stands at the end
pub record Before (old new : Walk) (o : Pending) (y : Entry) : Type 0 where
  pub steps : new ≡ record old { steps = slice_set old.steps o.place (steps.Closure y (length old.steps) o.behind) }

-- the continuation is in its slot already
pub record HoldsTail (old new : Walk) (k n : ℕ) (h : Held) : Type 0 where
  pub same : new ≡ old
  pub slot : h.slot ≡ k
  pub filled : h.filled ≡ n
  pub none : h.pending ≡ None

-- its closure fills the next slot
pub record HoldsOpen (old new : Walk) (n : ℕ) (h : Held) : Type 0 where
  pub made : Pending
  pub opens : Opens old new made
  pub slot : h.slot ≡ n
  pub filled : h.filled ≡ suc n
  pub some : h.pending ≡ Some made

abbrev pub Holds : Walk → Walk → Goal → ℕ → Held → Type 0
Holds old new (goals.Tail k) n h = HoldsTail old new k n h
Holds old new goals.Then n h = HoldsOpen old new n h
Holds old new goals.End n h = HoldsOpen old new n h

-- an open closure's step is there
abbrev pub IsThere : Walk → Option Pending → Type 0
IsThere w None = Unit {0}
IsThere w (Some o) = o.place < length w.steps

abbrev pub HeldIsOpen : Walk → Held → Type 0
HeldIsOpen w h = IsThere w h.pending

-- the block of a continuation begins with its argument in a slot; one that ends the thread ends there
abbrev pub Continues : Walk → Walk → Goal → Option Pending → Entry → Type 0
Continues old new goal None y = new ≡ old
Continues old new goals.End (Some o) y = (mid : Walk) × Before old mid o y × (new ≡ record mid { steps = mid.steps ++ steps.Ends endings.Done ∷ [] })
Continues old new goal (Some o) y = Before old new o y

pub record Resumes (old new : Walk) (h : Held) (goal : Goal) (y : Entry) (ty : ℕ) (v : Value) : Type 0 where
  pub continues : Continues old new goal h.pending y
  pub slot : v.slot ≡ h.filled
  pub filled : v.filled ≡ suc h.filled
  pub type_is : v.ty ≡ ty
