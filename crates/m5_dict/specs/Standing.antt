-- What type ids stand for: the types of a program's values as they are sent.
use Rattle.std.specs.Prelude.{◌≡◌, ℕ, List, Some, slice_get}
use Rattle.m5_terms.specs.TypeExpression as type
use Rattle.m5_terms.specs.TypeExpression.{TypeExpression}
use Rattle.m5_terms.specs.declared.types.World.{World}
use Rattle.m5_cps.specs.Entries.{SlotType, of, takes, Entry, by_value, by_call}
use Rattle.m5_dictionary.specs.declared.line.TypeLine.{TypeLine}
use Rattle.m5_dictionary.specs.declared.line.TypeLine.TheVariants as lines
use Rattle.m5_dict.specs.Lines.{address_line}

-- a type as data are sent: what is held and a sham are as their contents, a cell is one whatever it holds, and a function is
-- known by what it takes
pub data Sent : Type 0 where
  unit : Sent
  bool : Sent
  int : Sent
  text : Sent
  pair : Sent → Sent → Sent
  sum : Sent → Sent → Sent
  list : Sent → Sent
  fun : Sent → Sent
  cell : Sent
  address : World → Sent

-- a function takes its argument and a continuation
abbrev pub type_target : TypeExpression → Sent
type_target type.unit = unit
type_target type.bool = bool
type_target type.int = int
type_target type.string = text
type_target (type.address w) = address w
type_target (type.product A B) = pair (type_target A) (type_target B)
type_target (type.sum A B) = sum (type_target A) (type_target B)
type_target (type.function A B) = fun (pair (type_target A) (fun (type_target B)))
type_target (type.list A) = list (type_target A)
type_target (type.cell A) = cell
type_target (type.sham A) = type_target A
type_target (type.at A w) = type_target A

-- and a continuation what it is entered with
abbrev pub slot_target : SlotType → Sent
slot_target (of A) = type_target A
slot_target (takes T) = fun (slot_target T)

-- what a block takes
abbrev pub entry_target : Entry → Sent
entry_target (by_value m T) = slot_target T
entry_target (by_call m A B) = pair (type_target A) (fun (type_target B))

-- the id is that of a line over one part, or over two, which have the ids that stand for theirs
pub record IsOver (L : List TypeLine) (i : ℕ) (line : ℕ → TypeLine) (Part : ℕ → Type 0) : Type 0 where
  pub part : ℕ
  pub is : slice_get L i ≡ Some (line part)
  pub stands : Part part

pub record IsOverTwo (L : List TypeLine) (i : ℕ) (line : ℕ → ℕ → TypeLine) (First Second : ℕ → Type 0) : Type 0 where
  pub first : ℕ
  pub second : ℕ
  pub is : slice_get L i ≡ Some (line first second)
  pub first_stands : First first
  pub second_stands : Second second

-- the id of a type table is that of the type
abbrev pub Stands : List TypeLine → ℕ → Sent → Type 0
Stands L i unit = slice_get L i ≡ Some lines.Unit
Stands L i bool = slice_get L i ≡ Some lines.Bool
Stands L i int = slice_get L i ≡ Some lines.Int
Stands L i text = slice_get L i ≡ Some lines.Text
Stands L i (pair S T) = IsOverTwo L i lines.Pair (λ j. Stands L j S) (λ k. Stands L k T)
Stands L i (sum S T) = IsOverTwo L i lines.Sum (λ j. Stands L j S) (λ k. Stands L k T)
Stands L i (list T) = IsOver L i lines.List (λ j. Stands L j T)
Stands L i (fun T) = IsOver L i lines.Fun (λ j. Stands L j T)
Stands L i cell = slice_get L i ≡ Some lines.Cell
Stands L i (address w) = slice_get L i ≡ Some (address_line w)
