-- The laws of typed blocks under labels.
use Rattle.std.specs.Prelude.{◌≡◌, ◌≢◌, ℕ, List, [], Some, slice_get}
use Rattle.m5_terms.specs.TypeExpression.{TypeExpression, address}
use Rattle.m5_terms.specs.Primitives.{primitive_world}
use Rattle.m5_terms.specs.declared.types.World.{World}
use Rattle.m5_terms.specs.declared.types.World.TheVariants.{Any}
use Rattle.m5_terms.specs.declared.types.Primitive.{Primitive}
use Rattle.m5_typing.specs.Context.{CellTypes}
use Rattle.m5_cps.specs.Entries.{SlotType, of, takes, Mode, by_value, by_call, world_of}
use Rattle.m5_cps.specs.Blocks.{ask, send}
use Rattle.m5_cps.specs.Values.{closed, enter, call}
use Rattle.m5_cps.specs.Slots.{slot, Slots}
use Rattle.m5_cps_typing.specs.States.{Holds, Stands, ValueFits, ThreadFits, SiteFits, NextFits}
use Rattle.m5_flat.specs.Blocks.{ends, Block, Blocks}
use Rattle.m5_flat.specs.Values.{under, Value, Site}
use Rattle.m5_flat.specs.Running.{site_next}
use Rattle.m5_flat.specs.Machine.{opening_site, opening_threads}
use Rattle.m5_flat.specs.Fits.{no_setting, Environments, Fits}
use Rattle.m5_flat.specs.Program.{IsProgram}
use Rattle.m5_flat_typing.specs.Closures.{ClosureFits}

-- what a typed site of a program's blocks does next is a step to a typed site, or a typed ask of which each lawful answer makes
-- a typed site; it is never wrong. What is sent is typed where it goes, and goes to another world
abbrev pub TypedFlatGoesOn : Type 0
TypedFlatGoesOn =
    (B : Blocks) (d : IsProgram B) (L : CellTypes) (u : World) (s : Site) → u ≢ Any →
    SiteFits (ClosureFits B d.environments) no_setting L u s → NextFits (ClosureFits B d.environments) no_setting L u (site_next B u s)

-- each site of a program's blocks begins typed, where no cell is made yet
abbrev pub OpeningIsTyped : Type 0
OpeningIsTyped =
    (B : Blocks) (d : IsProgram B) (u : World) → u ≢ Any →
    SiteFits (ClosureFits B d.environments) no_setting (λ w. []) u (opening_site (opening_threads B u))

module _ (B : Blocks) (d : IsProgram B) (L : CellTypes) (u : World) where
  -- at u a value has the type
  abbrev pub Has : Value → World → SlotType → Type 0
  Has = ValueFits (ClosureFits B d.environments) no_setting L

  -- each value that was taken has, in some mode, the type of its place in the block's environment
  abbrev pub HasEnvironment : (ℕ → Value) → List SlotType → Type 0
  HasEnvironment ρ types = (j : ℕ) (T : SlotType) → slice_get types j ≡ Some T → (m : Mode) × Holds (Has (ρ j)) u m T

  -- the label has a block that may run at u, is entered with a value of the value's type, and has the environment
  pub record EntersBlock (i : ℕ) (ρ : ℕ → Value) (x : Value) : Type 0 where
    pub block : Block
    pub at : slice_get B.table i ≡ Some block
    pub mode : Mode
    pub argument : SlotType
    pub entry : block.entry ≡ by_value mode argument
    pub stands : Stands u (world_of mode)
    pub has : Has x u argument
    pub environment : HasEnvironment ρ block.environment

  -- the same of a block that is called with a value and a continuation
  pub record CallsBlock (i : ℕ) (ρ : ℕ → Value) (x j : Value) : Type 0 where
    pub block : Block
    pub at : slice_get B.table i ≡ Some block
    pub mode : Mode
    pub argument : TypeExpression
    pub result : TypeExpression
    pub entry : block.entry ≡ by_call mode argument result
    pub stands : Stands u (world_of mode)
    pub has : Has x u (of argument)
    pub continuation : Has j u (takes (of result))
    pub environment : HasEnvironment ρ block.environment

-- what a typed thread brings to the label that it enters has the label's types, and the label may stand there
abbrev pub EnteredHasItsTypes : Type 0
EnteredHasItsTypes =
    (B : Blocks) (d : IsProgram B) (L : CellTypes) (u : World) (i k : ℕ) (ρ : ℕ → Value) (x : Value) →
    ThreadFits (ClosureFits B d.environments) no_setting L u (enter (closed (under i k) ρ) x) → EntersBlock B d L u i ρ x

abbrev pub CalledHasItsTypes : Type 0
CalledHasItsTypes =
    (B : Blocks) (d : IsProgram B) (L : CellTypes) (u : World) (i k : ℕ) (ρ : ℕ → Value) (x j : Value) →
    ThreadFits (ClosureFits B d.environments) no_setting L u (call (closed (under i k) ρ) x j) → CallsBlock B d L u i ρ x j

-- a typed block asks by a primitive only at the primitive's own world
abbrev pub AsksAtItsWorld : Type 0
AsksAtItsWorld =
    (B : Blocks) (M : Environments) (b : World) (n : ℕ) (S : Slots) (p : Primitive) (x k : ℕ) →
    Fits B M b n S (ends (ask p x k)) → b ≡ primitive_world p

-- a typed block does not send to the world where it stands
abbrev pub SendsElsewhere : Type 0
SendsElsewhere =
    (B : Blocks) (M : Environments) (b : World) (n : ℕ) (S : Slots) (m : Mode) (a k x : ℕ) →
    S a ≡ Some (slot m (of (address b))) → Fits B M b n S (ends (send a k x)) → ⊥

-- a typed block that stands at each world does not send at all
abbrev pub SendsFromOneWorld : Type 0
SendsFromOneWorld = (B : Blocks) (M : Environments) (n : ℕ) (S : Slots) (a k x : ℕ) → Fits B M Any n S (ends (send a k x)) → ⊥
