-- What is known of the slots of a block.
use Rattle.std.specs.Prelude.{◌≡◌, ◌≢◌, ◌⊎◌, ℕ, suc, Bool, false, IsTrue, Option, Some, None}
use Rattle.m5_terms.specs.TypeExpression.{mobile}
use Rattle.m5_terms.specs.TypeExpression as type
use Rattle.m5_terms.specs.declared.types.World.{World}
use Rattle.m5_terms.specs.declared.types.World.TheVariants.{Any}
use Rattle.m5_cps.specs.Entries.{SlotType, of, takes, Mode, only, everywhere, Entry, by_value, by_call, world_of}
use Rattle.m5_cps.specs.Values.{put}

pub data Slot : Type 0 where
  slot : Mode → SlotType → Slot

abbrev pub Slots : Type 0
Slots = ℕ → Option Slot

abbrev pub no_slots : Slots
no_slots l = None

abbrev pub fill : ℕ → Mode → SlotType → Slots → Slots
fill n m T S = put n (Some (slot m T)) S

abbrev pub is_mobile : SlotType → Bool
is_mobile (of A) = mobile A
is_mobile (takes T) = false

-- a value of the one mode has the other
abbrev pub Reaches : Mode → Mode → SlotType → Type 0
Reaches everywhere m T = Unit {0}
Reaches (only v) (only w) T = (v ≡ w) ⊎ IsTrue (is_mobile T)
Reaches (only v) everywhere T = IsTrue (is_mobile T)

-- the slot has a thing of the type in this mode
abbrev pub Needs : Slots → ℕ → Mode → SlotType → Type 0
Needs S l m T = (k : Mode) × (S l ≡ Some (slot k T)) × Reaches k m T

-- the slot has some type
abbrev pub HasType : Slots → ℕ → Type 0
HasType S l = (m : Mode) × (T : SlotType) × (S l ≡ Some (slot m T))

-- a block at b makes things for its own world, or for each
abbrev pub Allowed : Mode → World → Type 0
Allowed (only v) b = v ≡ b
Allowed everywhere b = Unit {0}

-- a closure of the type C and its argument fill slots
abbrev pub entered_at : World → ℕ → SlotType → SlotType → Slots → Slots
entered_at w n C T S = fill (suc n) (only w) T (fill n (only w) C S)

-- the closure, its argument and, of a call, the continuation fill slots
abbrev pub entry_slots : Entry → ℕ → Slots → Slots
entry_slots (by_value m T) n S = entered_at (world_of m) n (takes T) T S
entry_slots (by_call m A B) n S =
    fill (suc (suc n)) (only (world_of m)) (takes (of B)) (entered_at (world_of m) n (of (type.function A B)) (of A) S)

-- the slots that a closure in a block at b may take with it, and in which modes: what the block has at any, being of the world at
-- which it runs, goes only into blocks of its own mode
abbrev pub Captures : World → Mode → Slots → Slots → Type 0
Captures b m S R = (l : ℕ) (k : Mode) (T : SlotType) → R l ≡ Some (slot k T) → Needs S l k T × ((m ≡ only b) ⊎ (k ≢ only Any))
