-- The dictionaries as data: the types by their ids, and the labels by their numbers.
use Rattle.std.specs.Prelude.{◌≡◌, ◌≢◌, ℕ, ◌<◌, ◌≤◌, ◌^◌, List, length, Some, Bool, true, false, ◌||◌, slice_get, All}
use Rattle.m5_terms.specs.declared.types.World.{World}
use Rattle.m5_terms.specs.declared.types.World.TheVariants.{Home, Server, Panel, Any}
use Rattle.m5_terms.specs.TypeExpression.{same_world}
use Rattle.m5_dictionary.specs.declared.line.TypeLine.{TypeLine}
use Rattle.m5_dictionary.specs.declared.line.TypeLine.TheVariants as lines

-- how a label is entered: where it stands, Any being each world, and the type ids of its argument and
-- of its environment
pub record Entrance : Type 0 where
  pub world : World
  pub argument : ℕ
  pub environment : List ℕ

pub record Dictionaries : Type 0 where
  pub types : List TypeLine
  pub labels : List Entrance

-- a label of the first world is one of the second one's code
abbrev pub stands_at : World → World → Bool
stands_at v w = same_world v Any || same_world v w

-- the number that stands for a world; no address is of Any
abbrev pub code_of_world : World → ℕ
code_of_world Home = 0
code_of_world Server = 1
code_of_world Panel = 2
code_of_world Any = 3

-- values of the type are objects of a region
abbrev pub is_object : TypeLine → Bool
is_object lines.Unit = false
is_object lines.Bool = false
is_object lines.Int = false
is_object lines.Text = true
is_object (lines.Pair i j) = true
is_object (lines.Sum i j) = true
is_object (lines.List i) = true
is_object (lines.Fun i) = true
is_object lines.Cell = false
is_object (lines.Addr w) = false

-- a line's parts are earlier ones, and an address is that of a site
abbrev pub IsLine : ℕ → TypeLine → Type 0
IsLine n lines.Unit = Unit {0}
IsLine n lines.Bool = Unit {0}
IsLine n lines.Int = Unit {0}
IsLine n lines.Text = Unit {0}
IsLine n (lines.Pair i j) = (i < n) × (j < n)
IsLine n (lines.Sum i j) = (i < n) × (j < n)
IsLine n (lines.List i) = i < n
IsLine n (lines.Fun i) = i < n
IsLine n lines.Cell = Unit {0}
IsLine n (lines.Addr w) = w ≢ Any

-- a table of types: each line stands once
pub record IsTypeTable (types : List TypeLine) : Type 0 where
  pub few : length types < 2 ^ 32
  pub lines : (n : ℕ) (line : TypeLine) → slice_get types n ≡ Some line → IsLine n line
  pub once : (m n : ℕ) (line : TypeLine) → slice_get types m ≡ Some line → slice_get types n ≡ Some line → m ≡ n

-- a label over so many types; its environment fits an array behind the label
pub record IsEntrance (types : ℕ) (e : Entrance) : Type 0 where
  pub argument : e.argument < types
  pub environment : All (λ i. i < types) e.environment
  pub short : length e.environment ≤ 65534

-- labels over so many types
pub record AreLabels (types : ℕ) (labels : List Entrance) : Type 0 where
  pub few : length labels ≤ 65535
  pub each : All (IsEntrance types) labels

pub record IsDictionaries (d : Dictionaries) : Type 0 where
  pub types : IsTypeTable d.types
  pub labels : AreLabels (length d.types) d.labels
