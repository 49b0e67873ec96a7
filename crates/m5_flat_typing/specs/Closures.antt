-- When a closure under a label is typed: as its label's block says, where that stands.
use Rattle.std.specs.Prelude.{◌≡◌, ℕ, List, length, Some, slice_get}
use Rattle.m5_terms.specs.declared.types.World.{World}
use Rattle.m5_cps.specs.Entries.{SlotType, world_of, entry_mode, entry_type}
use Rattle.m5_cps.specs.Slots.{Slot}
use Rattle.m5_cps_typing.specs.States.{SlotsFit, Stands, ClosureTyping}
use Rattle.m5_flat.specs.Blocks.{Block, Blocks}
use Rattle.m5_flat.specs.Values.{Closure, under}
use Rattle.m5_flat.specs.Fits.{Environments}

-- the label's block may run at u, and the closure has taken as many values as the label's environment has, each of its type
pub record LabelHolds (B : Blocks) (M : Environments) (i k : ℕ) (V : ℕ → World → SlotType → Type 0) (u : World) (T : SlotType) : Type 0 where
  pub block : Block
  pub at : slice_get B.table i ≡ Some block
  pub environment : List Slot
  pub known : M i ≡ Some environment
  pub count : k ≡ length block.environment
  pub stands : Stands u (world_of (entry_mode block.entry))
  pub is : T ≡ entry_type block.entry
  pub filled : SlotsFit V u (slice_get environment)

abbrev pub ClosureFits : Blocks → Environments → ClosureTyping Closure
ClosureFits B M (under i k) V u T = LabelHolds B M i k V u T
