-- What is written from one state of the walk to another: whatever goes on from there, the steps stand for code.
use Rattle.std.specs.Prelude.{◌≡◌, ◌≤◌, ℕ, suc, List, length, Some, slice_get}
use Rattle.m5_terms.specs.TypeExpression.{TypeExpression}
use Rattle.m5_terms.specs.Table.{entries}
use Rattle.m5_cps.specs.Blocks as blocks
use Rattle.m5_cps.specs.Blocks.{Code}
use Rattle.m5_cps.specs.Entries as entries
use Rattle.m5_cps.specs.declared.entry.Entry.{Entry}
use Rattle.m5_cps.specs.declared.step.Straight.{Straight}
use Rattle.m5_cps.specs.declared.step.Step.{Step}
use Rattle.m5_cps.specs.Steps.{straight_of, entry_of, code_at}
use Rattle.m5_cps_convert.specs.Continuations.{Continuation, Tail, Then, apply, thread_end}
use Rattle.m5_cps_convert.specs.declared.walk.Walk.{Walk}
use Rattle.m5_cps_convert.specs.declared.walk.Goal.{Goal}
use Rattle.m5_cps_convert.specs.declared.walk.Goal.TheVariants as goals
use Rattle.m5_cps_convert.specs.declared.walk.Value.{Value}

-- items keep their places
pub record Keeps {A : Type 0} (xs ys : List A) : Type 0 where
  pub each : (k : ℕ) (a : A) → slice_get xs k ≡ Some a → slice_get ys k ≡ Some a

-- steps and types are added, and variables are as before
pub record Grows (old new : Walk) : Type 0 where
  pub types : Keeps old.types new.types
  pub steps : Keeps old.steps new.steps
  pub longer : length old.steps ≤ length new.steps
  pub names : entries new.names ≡ entries old.names
  pub functions : new.functions ≡ old.functions

-- a finished program has the types, and the steps that were written from the one state to the other
pub record Completes (T : List TypeExpression) (S : List Step) (old new : Walk) : Type 0 where
  pub types : Keeps new.types T
  pub steps : (p : ℕ) (s : Step) → length old.steps ≤ p → slice_get new.steps p ≡ Some s → slice_get S p ≡ Some s

-- at the place the code goes on as the continuation does
abbrev pub Follows : List TypeExpression → List Step → ℕ → Goal → Value → Continuation → Type 0
Follows T S p (goals.Tail k) v κ = κ ≡ Tail k
Follows T S p goals.Then v κ = (f : ℕ → ℕ → Code) × (κ ≡ Then f) × (code_at T S p ≡ Some (f v.slot v.filled))
Follows T S p goals.End v κ = κ ≡ thread_end

-- in whatever finished program, the steps stand for the code, for each continuation that follows
abbrev pub Goes : Walk → Walk → Goal → Value → (Continuation → Code) → Type 0
Goes old new goal v c = (T : List TypeExpression) (S : List Step) (κ : Continuation) → Completes T S old new
    → Follows T S (length new.steps) goal v κ → code_at T S (length old.steps) ≡ Some (c κ)

pub record Writes (old new : Walk) (goal : Goal) (v : Value) (c : Continuation → Code) : Type 0 where
  pub grows : Grows old new
  pub goes : Goes old new goal v c

-- the steps stand for code that ends
pub record Finishes (old new : Walk) (c : Code) : Type 0 where
  pub grows : Grows old new
  pub stands : (T : List TypeExpression) (S : List Step) → Completes T S old new → code_at T S (length old.steps) ≡ Some c

-- a value of that type was written
pub record WritesValue (old new : Walk) (goal : Goal) (ty : ℕ) (c : Continuation → Code) (v : Value) : Type 0 where
  pub type_is : v.ty ≡ ty
  pub writes : Writes old new goal v c

-- what a form with types by number is, as long as these types keep their numbers
pub record Means (types : List TypeExpression) (s : Straight) (f : blocks.Straight) : Type 0 where
  pub is : (more : List TypeExpression) → Keeps types more → straight_of more s ≡ f

-- a straight form was written, and what follows its value
pub record Gives (old new : Walk) (s : Straight) (n : ℕ) (goal : Goal) (ty : ℕ) (v : Value) : Type 0 where
  pub type_is : v.ty ≡ ty
  pub writes : (f : blocks.Straight) → Means old.types s f → Writes old new goal v (λ κ. blocks.straight f (apply κ n (suc n)))

pub record MeansEntry (types : List TypeExpression) (y : Entry) (e : entries.Entry) : Type 0 where
  pub is : (more : List TypeExpression) → Keeps types more → entry_of more y ≡ e
