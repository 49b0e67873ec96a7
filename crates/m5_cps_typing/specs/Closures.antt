-- When a closure over slots is typed: as its entry says, where its block is.
use Rattle.std.specs.Prelude.{◌≡◌, ℕ}
use Rattle.m5_terms.specs.declared.types.World.{World}
use Rattle.m5_typing.specs.Context.{Setting}
use Rattle.m5_cps.specs.Entries.{SlotType, Entry, world_of, entry_mode, entry_type, entry_filled}
use Rattle.m5_cps.specs.Blocks.{Code}
use Rattle.m5_cps.specs.Captured.{Closure, over}
use Rattle.m5_cps.specs.Slots.{Slots, entry_slots}
use Rattle.m5_cps.specs.Fits.{Fits}
use Rattle.m5_cps_typing.specs.States.{SlotsFit, Stands, ClosureTyping}

-- its block may run at u, fits some types of the slots before it, and the slots have those types
pub record BlockFits (F : Setting) (y : Entry) (n : ℕ) (c : Code) (V : ℕ → World → SlotType → Type 0) (u : World) (T : SlotType) : Type 0 where
  pub slots : Slots
  pub stands : Stands u (world_of (entry_mode y))
  pub fits : Fits F (world_of (entry_mode y)) (entry_filled y n) (entry_slots y n slots) c
  pub is : T ≡ entry_type y
  pub filled : SlotsFit V u slots

abbrev pub ClosureFits : Setting → ClosureTyping Closure
ClosureFits F (over y n c) V u T = BlockFits F y n c V u T
