-- Programs of blocks under labels: each block is typed and within the limits.
use Rattle.std.specs.Prelude.{◌≡◌, ℕ, ◌≤◌, List, [], map, length, Some, slice_get}
use Rattle.std.specs.List.{AllByRecursion as Each}
use Rattle.m5_terms.specs.TypeExpression.{TypeExpression, unit, function}
use Rattle.m5_terms.specs.Primitives.{primitive_world, primitive_type}
use Rattle.m5_cps.specs.Entries.{of, only, everywhere, by_value, by_call, world_of, entry_mode, entry_filled, main_entry}
use Rattle.m5_cps.specs.Blocks.{ask, done}
use Rattle.m5_cps.specs.Slots.{Slot, entry_slots}
use Rattle.m5_flat.specs.Blocks.{ends, Block, Named, Blocks}
use Rattle.m5_flat.specs.Fits.{Environments, slot_type, Fits}
use Rattle.m5_flat.specs.Limits.{IsLimited}

-- a block is typed over an environment of the types that it says
pub record IsBlock (B : Blocks) (M : Environments) (es : List Slot) (b : Block) : Type 0 where
  pub types : map slot_type es ≡ b.environment
  pub fits : Fits B M (world_of (entry_mode b.entry)) (entry_filled b.entry (length b.environment)) (entry_slots b.entry (length b.environment) (slice_get es)) b.code

-- the block of a primitive as a function: it asks
pub record IsPrimitive (B : Blocks) (M : Environments) (a : Named) : Type 0 where
  pub bare : M a.label ≡ Some []
  pub argument : TypeExpression
  pub result : TypeExpression
  pub type : primitive_type a.primitive ≡ function argument result
  pub block : slice_get B.table a.label ≡ Some (record { entry = by_call (only (primitive_world a.primitive)) argument result; environment = []; code = ends (ask a.primitive 1 2) })

-- the block that ends a thread
abbrev pub finish_block : Block
finish_block = record { entry = by_value everywhere (of unit); environment = []; code = ends done }

-- the label of main's block
pub record IsMain (B : Blocks) (M : Environments) : Type 0 where
  pub bare : M B.main ≡ Some []
  pub block : Block
  pub at : slice_get B.table B.main ≡ Some block
  pub entry : block.entry ≡ main_entry
  pub environment : block.environment ≡ []

-- and of the one that ends a thread
pub record IsFinish (B : Blocks) (M : Environments) : Type 0 where
  pub bare : M B.finish ≡ Some []
  pub block : slice_get B.table B.finish ≡ Some finish_block

-- what every program of the types `Closed` and `Flat` keeps: each block is within the limits, and typed where its label has an
-- environment, as those of primitives, of main and of a thread's end have; no more labels are primitives' than there are primitives
pub record IsProgram (B : Blocks) : Type 0 where
  pub environments : Environments
  pub blocks : (i : ℕ) (es : List Slot) (b : Block) → environments i ≡ Some es → slice_get B.table i ≡ Some b → IsBlock B environments es b
  pub limited : Each IsLimited B.table
  pub primitives : Each (IsPrimitive B environments) B.primitives
  pub few : length B.primitives ≤ 8
  pub main : IsMain B environments
  pub finish : IsFinish B environments
