-- The blocks of a code with the types of their slots, as a total function: what dictionaries are read off.
use Rattle.std.specs.Prelude.{ℕ, suc, ◌≡◌, if◌then◌else◌, List, [], ◌∷◌, ◌++◌, Some}
use Rattle.m5_terms.specs.TypeExpression.{TypeExpression, unit, same_world}
use Rattle.m5_terms.specs.declared.types.World.{World}
use Rattle.m5_typing.specs.Context.{Setting, nothing}
use Rattle.m5_cps.specs.Entries.{SlotType, of, takes, Mode, Entry, by_value, by_call, world_of, entry_mode, entry_type, entry_filled}
use Rattle.m5_cps.specs.Blocks.{Straight, constant, one, two, unheld, unsham, spawn, if_true, if_left, if_nil, if_here, Code, straight, closure, test, ends}
use Rattle.m5_cps.specs.Values.{put}
use Rattle.m5_cps.specs.Slots.{slot, Slots, entry_slots}
use Rattle.m5_cps.specs.Fits.{Fits}
use Rattle.m5_cps.specs.TypeParts.{leaf_type, unary_whole, binary_whole, content_of, first_of, second_of, place_of}

abbrev pub Kinds : Type 0
Kinds = ℕ → SlotType

abbrev pub source_type : SlotType → TypeExpression
source_type (of A) = A
source_type (takes T) = unit

abbrev pub entry_kinds : Entry → ℕ → Kinds → Kinds
entry_kinds (by_value m T) n K = put (suc n) T (put n (takes T) K)
entry_kinds (by_call m A B) n K = put (suc (suc n)) (takes (of B)) (put (suc n) (of A) (put n (entry_type (by_call m A B)) K))

-- a block: how it is entered, where, and with what types; the slots that were filled before it, with their types
pub record Row : Type 0 where
  pub entry : Entry
  pub filled : ℕ
  pub kinds : Kinds
  pub code : Code

abbrev pub straight_type : Setting → World → Kinds → Straight → SlotType
straight_type E b K (constant f) = of (leaf_type E nothing b f)
straight_type E b K (one f x) = of (unary_whole f b (source_type (K x)))
straight_type E b K (two f x y) = of (binary_whole f (source_type (K x)) (source_type (K y)))
straight_type E b K (unheld x) = of (content_of (source_type (K x)))
straight_type E b K (unsham x) = of (content_of (source_type (K x)))
straight_type E b K (spawn x) = of unit

-- the blocks that a block's code makes closures of; of a test of an address only the way that is taken
abbrev pub rows : Setting → World → ℕ → Kinds → Code → List Row
rows E b n K (straight f c) = rows E b (suc n) (put n (straight_type E b K f) K) c
rows E b n K (closure y c d) =
    record { entry = y; filled = n; kinds = K; code = c }
    ∷ (rows E (world_of (entry_mode y)) (entry_filled y n) (entry_kinds y n K) c ++ rows E b (suc n) (put n (entry_type y) K) d)
rows E b n K (test if_true x c d) = rows E b n K c ++ rows E b n K d
rows E b n K (test if_left x c d) =
    rows E b (suc n) (put n (of (first_of (source_type (K x)))) K) c ++ rows E b (suc n) (put n (of (second_of (source_type (K x)))) K) d
rows E b n K (test if_nil x c d) =
    rows E b n K c ++ rows E b (suc (suc n)) (put (suc n) (of (source_type (K x))) (put n (of (content_of (source_type (K x)))) K)) d
rows E b n K (test if_here x c d) = if same_world (place_of (source_type (K x))) b then rows E b n K c else rows E b n K d
rows E b n K (ends e) = []

-- the slots have these types
abbrev pub Known : Slots → Kinds → Type 0
Known S K = (l : ℕ) (m : Mode) (T : SlotType) → S l ≡ Some (slot m T) → K l ≡ T

-- a row's block is typed where it is entered, over slots of the row's types
pub record RowFits (E : Setting) (r : Row) : Type 0 where
  pub slots : Slots
  pub fits : Fits E (world_of (entry_mode r.entry)) (entry_filled r.entry r.filled) (entry_slots r.entry r.filled slots) r.code
  pub known : Known slots r.kinds
