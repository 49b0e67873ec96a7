-- The dictionaries of a program's blocks.
use Rattle.std.specs.Prelude.{◌≡◌, ℕ, List, map, Some, slice_get}
use Rattle.std.specs.List.{AllZip}
use Rattle.m5_cps.specs.Entries.{world_of, entry_mode}
use Rattle.m5_flat.specs.Blocks.{Block, Blocks}
use Rattle.m5_dictionary.specs.declared.line.TypeLine.{TypeLine}
use Rattle.m5_dictionary.specs.declared.line.TypeLine.TheVariants as lines
use Rattle.m5_dictionary.specs.Dictionaries.{Entrance, Dictionaries}
use Rattle.m5_dict.specs.Standing.{Stands, entry_target, slot_target}

-- a label's line says where its block stands, what it takes, and what its closures have; one that is sent has an id itself: a line
-- of the table is that of functions of the argument
pub record IsEntranceOf (types : List TypeLine) (e : Entrance) (b : Block) : Type 0 where
  pub world : e.world ≡ world_of (entry_mode b.entry)
  pub argument : Stands types e.argument (entry_target b.entry)
  pub closure : (id : ℕ) × (slice_get types id ≡ Some (lines.Fun e.argument))
  pub environment : AllZip (Stands types) e.environment (map slot_target b.environment)

-- each label has its line, in the labels' order
pub record AreDictionariesOf (B : Blocks) (d : Dictionaries) : Type 0 where
  pub labels : AllZip (IsEntranceOf d.types) d.labels B.table
