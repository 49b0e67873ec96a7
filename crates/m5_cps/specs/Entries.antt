-- The types of what blocks have in slots, and how a block is entered.
use Rattle.std.specs.Prelude.{ℕ, suc}
use Rattle.m5_terms.specs.TypeExpression.{TypeExpression, unit, function}
use Rattle.m5_terms.specs.declared.types.World.{World}
use Rattle.m5_terms.specs.declared.types.World.TheVariants.{Home, Any}

-- a value of the source's type, or a continuation that is entered with such a thing
pub data SlotType : Type 0 where
  of : TypeExpression → SlotType
  takes : SlotType → SlotType

-- where something is of its type: at one world, or at each; in a block that stands at any, any is the world at which it runs
pub data Mode : Type 0 where
  only : World → Mode
  everywhere : Mode

-- a block is entered with a value, or called with a value and a continuation; where it stands, what it takes, and what the
-- continuation of a called one takes
pub data Entry : Type 0 where
  by_value : Mode → SlotType → Entry
  by_call : Mode → TypeExpression → TypeExpression → Entry

-- where a block of this mode stands
abbrev pub world_of : Mode → World
world_of (only w) = w
world_of everywhere = Any

abbrev pub entry_mode : Entry → Mode
entry_mode (by_value m T) = m
entry_mode (by_call m A B) = m

-- the type of a closure of the block
abbrev pub entry_type : Entry → SlotType
entry_type (by_value m T) = takes T
entry_type (by_call m A B) = of (function A B)

-- how many slots are filled where the block begins, of so many before it
abbrev pub entry_filled : Entry → ℕ → ℕ
entry_filled (by_value m T) n = suc (suc n)
entry_filled (by_call m A B) n = suc (suc (suc n))

-- main's block is entered with unit
abbrev pub main_entry : Entry
main_entry = by_value (only Home) (of unit)
