-- Programs of blocks: each block is typed and within the limits.
use Rattle.std.specs.Prelude.{Option, Some, None, [], slice_get}
use Rattle.std.specs.List.{AllByRecursion as Each}
use Rattle.m5_terms.specs.TypeExpression.{function}
use Rattle.m5_typing.specs.Context.{Bound, Setting}
use Rattle.m5_typing.specs.Program.{bound_at}
use Rattle.m5_cps.specs.Entries.{only, Entry, by_value, by_call, world_of, entry_mode, entry_filled, main_entry}
use Rattle.m5_cps.specs.Blocks.{Block, Blocks}
use Rattle.m5_cps.specs.Slots.{no_slots, entry_slots}
use Rattle.m5_cps.specs.Fits.{Fits}
use Rattle.m5_cps.specs.Limits.{IsLimited, AreLimited}

abbrev pub entry_bound : Entry → Option Bound
entry_bound (by_value m T) = None
entry_bound (by_call m A B) = Some (bound_at (world_of m) (function A B))

abbrev pub block_bound : Option Block → Option Bound
block_bound None = None
block_bound (Some b) = entry_bound b.entry

-- what code of the program knows of the declared functions; there are no cells yet
abbrev pub setting_of : Blocks → Setting
setting_of B = record { functions = λ f. block_bound (slice_get B.functions f); cells = λ w. [] }

-- a declared function is called where it stands
abbrev pub IsFunction : Entry → Type 0
IsFunction (by_call (only w) A B) = Unit {0}
IsFunction _ = ⊥

-- a block over no slots is typed and within the limits, and so are the blocks in it
pub record IsBlock (E : Setting) (b : Block) : Type 0 where
  pub fits : Fits E (world_of (entry_mode b.entry)) (entry_filled b.entry 0) (entry_slots b.entry 0 no_slots) b.code
  pub limited : IsLimited 0 b.entry b.code
  pub inner : AreLimited (entry_filled b.entry 0) b.code

pub record IsFunctionBlock (E : Setting) (b : Block) : Type 0 where
  pub function : IsFunction b.entry
  pub block : IsBlock E b

-- what every program of the type `Cps` keeps
pub record IsProgram (B : Blocks) : Type 0 where
  pub functions : Each (IsFunctionBlock (setting_of B)) B.functions
  pub main : IsBlock (setting_of B) (record { entry = main_entry; code = B.main })
