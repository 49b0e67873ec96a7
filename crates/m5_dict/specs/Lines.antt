-- The lines of the type table while it grows.
use Rattle.std.specs.Prelude.{◌≡◌, ℕ, List, ◌++◌, Some, slice_get}
use Rattle.m5_terms.specs.declared.types.World.{World}
use Rattle.m5_terms.specs.declared.types.World.TheVariants.{Home, Server, Panel, Any}
use Rattle.m5_dictionary.specs.declared.line.TypeLine.{TypeLine}
use Rattle.m5_dictionary.specs.declared.line.TypeLine.TheVariants as lines
use Rattle.m5_dict.specs.declared.target.Target.{Target}
use Rattle.m5_dict.specs.declared.target.Target.TheVariants as targets

-- the line for which a key stands
abbrev pub line_of : Target → TypeLine
line_of targets.Unit = lines.Unit
line_of targets.Bool = lines.Bool
line_of targets.Int = lines.Int
line_of targets.Text = lines.Text
line_of (targets.Pair i j) = lines.Pair i j
line_of (targets.Sum i j) = lines.Sum i j
line_of (targets.List i) = lines.List i
line_of (targets.Fun i) = lines.Fun i
line_of targets.Cell = lines.Cell
line_of targets.AddrHome = lines.Addr Home
line_of targets.AddrServer = lines.Addr Server
line_of targets.AddrPanel = lines.Addr Panel

-- the line of an address; there is no site of any, and so no such value
abbrev pub address_line : World → TypeLine
address_line Any = lines.Unit
address_line Home = lines.Addr Home
address_line Server = lines.Addr Server
address_line Panel = lines.Addr Panel

-- the earlier lines stay, with their ids
pub record Grows (old new : List TypeLine) : Type 0 where
  pub more : List TypeLine
  pub is : new ≡ old ++ more

-- a pair of the argument and a continuation for the result
pub record IsCallLine (types : List TypeLine) (id argument result : ℕ) : Type 0 where
  pub continuation : ℕ
  pub pair : slice_get types id ≡ Some (lines.Pair argument continuation)
  pub fun : slice_get types continuation ≡ Some (lines.Fun result)
