-- Typed blocks, by recursion on the code alone.
use Rattle.std.specs.Prelude.{◌≡◌, ◌≢◌, ◌<◌, ◌||◌, ℕ, suc, Bool, true, false, IsTrue}
use Rattle.m5_terms.specs.Expression.{Expression, leaf}
use Rattle.m5_terms.specs.TypeExpression.{TypeExpression, unit, bool, address, sum, function, list, sham, at, same_world}
use Rattle.m5_terms.specs.Primitives.{primitive_world, primitive_type}
use Rattle.m5_terms.specs.declared.types.World.{World}
use Rattle.m5_terms.specs.declared.types.World.TheVariants.{Any}
use Rattle.m5_terms.specs.declared.form.LeafForm.TheVariants as leaf_form
use Rattle.m5_terms.specs.declared.form.UnaryForm.{UnaryForm}
use Rattle.m5_terms.specs.declared.form.UnaryForm.TheVariants as unary_form
use Rattle.m5_terms.specs.declared.form.BinaryForm.{BinaryForm}
use Rattle.m5_terms.specs.declared.form.BinaryForm.TheVariants as binary_form
use Rattle.m5_typing.specs.Context.{Setting, nothing}
use Rattle.m5_typing.specs.Rules.{Pick, unary_rule, binary_rule}
use Rattle.m5_typing.specs.Typing.{Typed}
use Rattle.m5_cps.specs.Entries.{SlotType, of, takes, Mode, only, everywhere, world_of, entry_mode, entry_type, entry_filled}
use Rattle.m5_cps.specs.Blocks.{Straight, constant, one, two, unheld, unsham, spawn, if_true, if_left, if_nil, if_here, Ending, go, call, ask, send, done, Code, straight, closure, test, ends}
use Rattle.m5_cps.specs.Captured.{uses}
use Rattle.m5_cps.specs.Slots.{Slots, fill, Needs, HasType, Allowed, entry_slots, Captures}

abbrev pub IsOnly : Mode → Type 0
IsOnly (only v) = Unit {0}
IsOnly everywhere = ⊥

-- forms that only make a value of values may make it for each world
abbrev pub IsStraightOne : UnaryForm → Mode → Type 0
IsStraightOne (unary_form.Fn x A) m = ⊥
IsStraightOne (unary_form.Rec f x A B) m = ⊥
IsStraightOne unary_form.Spawn m = ⊥
IsStraightOne (unary_form.Held v) m = ⊥
IsStraightOne (unary_form.Inl T) m = Unit {0}
IsStraightOne (unary_form.Inr T) m = Unit {0}
IsStraightOne unary_form.Sham m = Unit {0}
IsStraightOne f m = IsOnly m

abbrev pub IsStraightTwo : BinaryForm → Mode → Type 0
IsStraightTwo binary_form.Pair m = Unit {0}
IsStraightTwo binary_form.Cons m = Unit {0}
IsStraightTwo binary_form.Store m = IsOnly m
IsStraightTwo (binary_form.Binary o) m = IsOnly m
IsStraightTwo f m = ⊥

-- what is put into a sham is used at each world
abbrev pub part_mode : UnaryForm → Mode → Mode
part_mode unary_form.Sham m = everywhere
part_mode f m = m

abbrev pub no_part : Expression
no_part = leaf leaf_form.Unit

-- StraightFits E b S f Next: in a block at b with these slots the form gives a thing of such a mode and type that Next holds
abbrev pub StraightFits : Setting → World → Slots → Straight → (Mode → SlotType → Type 0) → Type 0
StraightFits E b S (constant f) Next = (m : Mode) × (A : TypeExpression) × Allowed m b × Typed E nothing (world_of m) (leaf f) A × Next m (of A)
StraightFits E b S (one f x) Next =
    (m : Mode) × (p : Pick) × Allowed m b × IsStraightOne f m × Needs S x (part_mode f m) (of (unary_rule f (world_of m) p).part)
    × (unary_rule f (world_of m) p).side no_part × Next m (of (unary_rule f (world_of m) p).whole)
StraightFits E b S (two f x y) Next =
    (m : Mode) × (p : Pick) × Allowed m b × IsStraightTwo f m × Needs S x m (of (binary_rule f (world_of m) p).first)
    × Needs S y m (of (binary_rule f (world_of m) p).second) × Next m (of (binary_rule f (world_of m) p).whole)
StraightFits E b S (unheld x) Next = (A : TypeExpression) × (v : World) × (v ≢ Any) × Needs S x (only b) (of (at A v)) × Next (only v) (of A)
StraightFits E b S (unsham x) Next = (A : TypeExpression) × Needs S x (only b) (of (sham A)) × Next everywhere (of A)
StraightFits E b S (spawn x) Next = Needs S x (only b) (takes (of unit)) × Next everywhere (of unit)

-- a primitive is asked where it is, and a send goes from one world to another
abbrev pub EndingFits : World → Slots → Ending → Type 0
EndingFits b S (go k x) = (T : SlotType) × Needs S k (only b) (takes T) × Needs S x (only b) T
EndingFits b S (call f x k) =
    (A B : TypeExpression) × Needs S f (only b) (of (function A B)) × Needs S x (only b) (of A) × Needs S k (only b) (takes (of B))
EndingFits b S (ask p x k) =
    (b ≡ primitive_world p) × ((A B : TypeExpression) × (primitive_type p ≡ function A B) × Needs S x (only b) (of A) × Needs S k (only b) (takes (of B)))
EndingFits b S (send a k x) =
    (v : World) × (T : SlotType) × (v ≢ Any) × (b ≢ Any) × (v ≢ b) × Needs S a (only b) (of (address v)) × Needs S k (only v) (takes T) × Needs S x (only v) T
EndingFits b S done = Unit {0}

-- the one or the other
abbrev pub Chosen : Bool → Type 0 → Type 0 → Type 0
Chosen true X Y = X
Chosen false X Y = Y

-- Fits E b n S c: a block at b with the slots S, of which n are filled, goes on with the code; a block at any stands at each world.
-- Of a test of an address the way that is taken is typed, and the slots that either way uses have types
abbrev pub Fits : Setting → World → ℕ → Slots → Code → Type 0
Fits E b n S (straight f c) = StraightFits E b S f (λ m T. Fits E b (suc n) (fill n m T S) c)
Fits E b n S (closure y c d) =
    (R : Slots) × Captures b (entry_mode y) S R × Fits E (world_of (entry_mode y)) (entry_filled y n) (entry_slots y n R) c
    × Fits E b (suc n) (fill n (entry_mode y) (entry_type y) S) d
Fits E b n S (test if_true x c d) = Needs S x (only b) (of bool) × Fits E b n S c × Fits E b n S d
Fits E b n S (test if_left x c d) =
    (A B : TypeExpression) × Needs S x (only b) (of (sum A B)) × Fits E b (suc n) (fill n (only b) (of A) S) c × Fits E b (suc n) (fill n (only b) (of B) S) d
Fits E b n S (test if_nil x c d) =
    (A : TypeExpression) × Needs S x (only b) (of (list A)) × Fits E b n S c
    × Fits E b (suc (suc n)) (fill (suc n) (only b) (of (list A)) (fill n (only b) (of A) S)) d
Fits E b n S (test if_here x c d) =
    (v : World) × (v ≢ Any) × (b ≢ Any) × Needs S x (only b) (of (address v)) × Chosen (same_world v b) (Fits E b n S c) (Fits E b n S d)
    × ((l : ℕ) → l < n → IsTrue (uses c l || uses d l) → HasType S l)
Fits E b n S (ends e) = EndingFits b S e
