-- What slots stand for, and so variables and frames.
use Rattle.std.specs.Prelude.{◌≡◌, ℕ, ◌≤◌, ◌<◌, List, [], ◌∷◌, Option, Some, None}
use Rattle.m5_terms.specs.Expression.{Expression, leaf}
use Rattle.m5_terms.specs.declared.types.World.{World}
use Rattle.m5_terms.specs.declared.types.Primitive.{Primitive}
use Rattle.m5_terms.specs.declared.form.LeafForm.TheVariants as leaf_form
use Rattle.m5_terms.specs.declared.thread.Frame.{Frame}
use Rattle.m5_terms.specs.declared.thread.Frame.TheVariants as frame
use Rattle.m5_meaning.specs.Parts.{parts, fill}
use Rattle.m5_cps_convert.specs.Scopes.{Scope}
use Rattle.m5_cps_convert.specs.Closing.{Values, close}
use Rattle.m5_cps_convert.specs.Proper.{Proper, StandsAt}
use Rattle.m5_cps_convert.specs.Statics.{Static, STop, STail, SBack, SHome, SFirst, SSecond, SArgument, IsSlotted, direct_call}

-- a value; frames at a world; a term that waits for its frames; one that has them at a world
pub data Slot : Type 0 where
  SVal : Expression → Slot
  SKont : World → List Frame → Slot
  SGoal : Expression → Slot
  SStart : World → List Frame → Expression → Slot

abbrev pub Slots : Type 1
Slots = ℕ → Slot → Type 0

-- the slot is one of the n that are filled, and stands for that
abbrev pub Has : Slots → ℕ → ℕ → Slot → Type 0
Has P n l s = (l < n) × P l s

abbrev pub unit_term : Expression
unit_term = leaf leaf_form.Unit

-- a variable without a slot stands for unit; there is none in a closed term
abbrev pub FitsAt : Slots → ℕ → Option ℕ → Option Expression → Type 0
FitsAt P n None v = v ≡ Some unit_term
FitsAt P n (Some l) (Some v) = Has P n l (SVal v)
FitsAt P n (Some l) None = ⊥

-- the variables' slots have these values
abbrev pub Fits : Slots → ℕ → Scope → Values → Type 0
Fits P n Γ γ = (x : ℕ) → FitsAt P n (Γ.slots x) (γ x)

-- a node of the scope waits for its first part
pub record WaitsFirst (u : World) (Γ : Scope) (e : Expression) (Slotted : Type 0) (P : Slots) (n : ℕ) (fs : List Frame) (Below : List Frame → Type 0) : Type 0 where
  pub world : World
  pub values : Values
  pub below : List Frame
  pub has_part : 1 ≤ parts e
  pub slotted : Slotted
  pub proper : Proper e
  pub stands : StandsAt u world e
  pub fits : Fits P n Γ values
  pub is : fs ≡ frame.Part world (close values e) 0 ∷ below
  pub rest : Below below

-- or for its second, where the first's value is in slot x
pub record WaitsSecond (u : World) (e : Expression) (x : ℕ) (P : Slots) (n : ℕ) (fs : List Frame) (Below : List Frame → Type 0) : Type 0 where
  pub world : World
  pub values : Values
  pub first : Expression
  pub below : List Frame
  pub has_parts : parts e ≡ 2
  pub stands : StandsAt u world e
  pub has : Has P n x (SVal first)
  pub is : fs ≡ frame.Part world (fill (close values e) 0 first) 1 ∷ below
  pub rest : Below below

-- a primitive waits for its argument
pub record WaitsArgument (u : World) (p : Primitive) (fs : List Frame) (Below : List Frame → Type 0) : Type 0 where
  pub argument : Expression
  pub below : List Frame
  pub is : fs ≡ frame.Part u (direct_call p argument) 1 ∷ below
  pub rest : Below below

-- a value goes back to the world where the continuation in slot k stands
pub record SendsBack (h k : ℕ) (P : Slots) (n : ℕ) (fs : List Frame) : Type 0 where
  pub world : World
  pub below : List Frame
  pub address : Has P n h (SVal (leaf (leaf_form.Addr world)))
  pub continuation : Has P n k (SKont world below)
  pub is : fs ≡ frame.Return world ∷ below

-- it goes back to the world w, where the continuation in slot k stands
pub record SendsHome (w : World) (k : ℕ) (P : Slots) (n : ℕ) (fs : List Frame) : Type 0 where
  pub below : List Frame
  pub continuation : Has P n k (SKont w below)
  pub is : fs ≡ frame.Return w ∷ below

-- at the site of u, these are the frames
abbrev pub Frames : World → Slots → ℕ → Static → List Frame → Type 0
Frames u P n STop fs = fs ≡ []
Frames u P n (STail k) fs = Has P n k (SKont u fs)
Frames u P n (SBack h k) fs = SendsBack h k P n fs
Frames u P n (SHome w k) fs = SendsHome w k P n fs
Frames u P n (SFirst Γ e K) fs = WaitsFirst u Γ e (IsSlotted e K) P n fs (Frames u P n K)
Frames u P n (SSecond Γ e x K) fs = WaitsSecond u e x P n fs (Frames u P n K)
Frames u P n (SArgument Γ p b K) fs = WaitsArgument u p fs (Frames u P n K)
