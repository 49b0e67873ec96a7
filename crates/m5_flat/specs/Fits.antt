-- Typed blocks under labels, by recursion on the code: each label's environment has types and modes.
use Rattle.std.specs.Prelude.{◌≡◌, ◌≢◌, ◌⊎◌, ℕ, suc, List, [], Some, None, Option, slice_get}
use Rattle.std.specs.List.{AllZip}
use Rattle.m5_terms.specs.TypeExpression.{TypeExpression, bool, address, sum, list, same_world}
use Rattle.m5_terms.specs.declared.types.World.{World}
use Rattle.m5_terms.specs.declared.types.World.TheVariants.{Any}
use Rattle.m5_terms.specs.declared.form.LeafForm.TheVariants as leaf_form
use Rattle.m5_typing.specs.Context.{Setting}
use Rattle.m5_cps.specs.Entries.{SlotType, of, Mode, only, entry_mode, entry_type}
use Rattle.m5_cps.specs.Blocks.{Straight, constant, if_true, if_left, if_nil, if_here}
use Rattle.m5_cps.specs.Slots.{Slot, slot, Slots, fill, Needs}
use Rattle.m5_cps.specs.Fits.{StraightFits, EndingFits, Chosen}
use Rattle.m5_flat.specs.Blocks.{Code, straight, closure, test, ends, Block, Blocks}

-- no function is declared outside the table, and there are no cells yet
abbrev pub no_setting : Setting
no_setting = record { functions = λ f. None; cells = λ w. [] }

-- the environments of the labels that typed code makes closures of: what each position has, and in which mode. A label that only
-- a way of a test names which is never taken may have none
abbrev pub Environments : Type 0
Environments = ℕ → Option (List Slot)

abbrev pub slot_type : Slot → SlotType
slot_type (slot k T) = T

-- functions are made as closures
abbrev pub IsPlain : Straight → Type 0
IsPlain (constant (leaf_form.Glob f)) = ⊥
IsPlain (constant (leaf_form.Extern p)) = ⊥
IsPlain _ = Unit {0}

-- in a block at b a closure whose block has the mode m takes the slot for a position of its environment: what the block has at
-- any, being of the world at which it runs, goes only into blocks of its own mode
abbrev pub TakesSlot : World → Mode → Slots → ℕ → Slot → Type 0
TakesSlot b m S l (slot k T) = Needs S l k T × ((m ≡ only b) ⊎ (k ≢ only Any))

-- the label has a block and an environment, of which the slots are those, in their order
abbrev pub LabelFits : Blocks → Environments → World → Slots → List ℕ → ℕ → (Block → Type 0) → Type 0
LabelFits B M b S ls i Next =
    (d : Block) × (es : List Slot) × (slice_get B.table i ≡ Some d) × (M i ≡ Some es) × AllZip (TakesSlot b (entry_mode d.entry) S) ls es × Next d

-- Fits B M b n S c: a block at b with the slots S, of which n are filled, goes on with the code; a block at any stands at each
-- world. Of a test of an address the way that is taken is typed
abbrev pub Fits : Blocks → Environments → World → ℕ → Slots → Code → Type 0
Fits B M b n S (straight f c) = IsPlain f × StraightFits no_setting b S f (λ m T. Fits B M b (suc n) (fill n m T S) c)
Fits B M b n S (closure ls i c) =
    LabelFits B M b S ls i (λ d. Fits B M b (suc n) (fill n (entry_mode d.entry) (entry_type d.entry) S) c)
Fits B M b n S (test if_true x c d) = Needs S x (only b) (of bool) × Fits B M b n S c × Fits B M b n S d
Fits B M b n S (test if_left x c d) =
    (A D : TypeExpression) × Needs S x (only b) (of (sum A D)) × Fits B M b (suc n) (fill n (only b) (of A) S) c
    × Fits B M b (suc n) (fill n (only b) (of D) S) d
Fits B M b n S (test if_nil x c d) =
    (A : TypeExpression) × Needs S x (only b) (of (list A)) × Fits B M b n S c
    × Fits B M b (suc (suc n)) (fill (suc n) (only b) (of (list A)) (fill n (only b) (of A) S)) d
Fits B M b n S (test if_here x c d) =
    (v : World) × (v ≢ Any) × (b ≢ Any) × Needs S x (only b) (of (address v)) × Chosen (same_world v b) (Fits B M b n S c) (Fits B M b n S d)
Fits B M b n S (ends e) = EndingFits b S e
