-- The laws of typed blocks.
use Rattle.std.specs.Prelude.{◌≡◌, ◌≢◌, ◌<◌, ℕ, IsTrue, [], Some}
use Rattle.std.specs.List.{AllByRecursion as Each}
use Rattle.m5_terms.specs.Expression.{Expression}
use Rattle.m5_terms.specs.TypeExpression.{TypeExpression, address}
use Rattle.m5_terms.specs.Primitives.{primitive_world}
use Rattle.m5_terms.specs.declared.types.World.{World}
use Rattle.m5_terms.specs.declared.types.World.TheVariants.{Any}
use Rattle.m5_terms.specs.declared.types.Primitive.{Primitive}
use Rattle.m5_typing.specs.Context.{CellTypes, Context, Setting}
use Rattle.m5_typing.specs.Typing.{Typed}
use Rattle.m5_cps.specs.Entries.{of, Mode}
use Rattle.m5_cps.specs.Blocks.{ask, send, Code, ends, Blocks}
use Rattle.m5_cps.specs.Captured.{Site, uses}
use Rattle.m5_cps.specs.Running.{site_next}
use Rattle.m5_cps.specs.Machine.{opening_site, opening_threads}
use Rattle.m5_cps.specs.Slots.{slot, Slots, HasType}
use Rattle.m5_cps.specs.Fits.{Fits}
use Rattle.m5_cps.specs.Program.{IsProgram, setting_of}
use Rattle.m5_cps.specs.TypeOf.{type_of}
use Rattle.m5_cps_typing.specs.States.{SiteFits, NextFits}
use Rattle.m5_cps_typing.specs.Closures.{ClosureFits}
use Rattle.m5_cps_typing.specs.Rows.{Kinds, rows, Known, RowFits}

-- what a typed site of a program's blocks does next is a step to a typed site, or a typed ask of which each lawful answer makes
-- a typed site; it is never wrong
abbrev pub TypedBlocksGoOn : Type 0
TypedBlocksGoOn =
    (B : Blocks) (L : CellTypes) (u : World) (s : Site) → IsProgram B → u ≢ Any →
    SiteFits (ClosureFits (setting_of B)) (setting_of B) L u s →
    NextFits (ClosureFits (setting_of B)) (setting_of B) L u (site_next B u s)

-- each site of a program's blocks begins typed, where no cell is made yet
abbrev pub OpeningIsTyped : Type 0
OpeningIsTyped =
    (B : Blocks) (u : World) → IsProgram B → u ≢ Any →
    SiteFits (ClosureFits (setting_of B)) (setting_of B) (λ w. []) u (opening_site (opening_threads B u))

-- going through a typed node finds its type
abbrev pub TypesAreFound : Type 0
TypesAreFound = (E : Setting) (G : Context) (w : World) (e : Expression) (A : TypeExpression) → Typed E G w e A → type_of E e G w ≡ A

-- the types that are read off the code of a typed block are those with which the blocks in it fit
abbrev pub RowsFit : Type 0
RowsFit = (E : Setting) (b : World) (n : ℕ) (S : Slots) (K : Kinds) (c : Code) → Fits E b n S c → Known S K → Each (RowFits E) (rows E b n K c)

-- a slot that a typed block uses has a type
abbrev pub UsedSlotsAreTyped : Type 0
UsedSlotsAreTyped = (E : Setting) (b : World) (n l : ℕ) (S : Slots) (c : Code) → l < n → IsTrue (uses c l) → Fits E b n S c → HasType S l

-- a typed block asks by a primitive only at the primitive's own world
abbrev pub AsksAtItsWorld : Type 0
AsksAtItsWorld = (E : Setting) (b : World) (n : ℕ) (S : Slots) (p : Primitive) (x k : ℕ) → Fits E b n S (ends (ask p x k)) → b ≡ primitive_world p

-- a typed block does not send to the world where it stands
abbrev pub SendsElsewhere : Type 0
SendsElsewhere = (E : Setting) (b : World) (n : ℕ) (S : Slots) (m : Mode) (a k x : ℕ) → S a ≡ Some (slot m (of (address b))) → Fits E b n S (ends (send a k x)) → ⊥

-- a typed block that stands at each world does not send at all
abbrev pub SendsFromOneWorld : Type 0
SendsFromOneWorld = (E : Setting) (n : ℕ) (S : Slots) (a k x : ℕ) → Fits E Any n S (ends (send a k x)) → ⊥
