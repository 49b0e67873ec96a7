-- Blocks under labels: a closure takes the values of some slots, in their order, and its block has them in slots 0, 1, ..
use Rattle.std.specs.Prelude.{ℕ, ◌==◌, if◌then◌else◌, List, [], ◌∷◌, Option, Some, None}
use Rattle.m5_terms.specs.declared.types.Primitive.{Primitive}
use Rattle.m5_cps.specs.Entries.{SlotType, Entry}
use Rattle.m5_cps.specs.Blocks.{Straight, Test, Ending}

-- forms, tests and endings are those of continuation-passing style; a function as a value is a closure that takes nothing
pub data Code : Type 0 where
  straight : Straight → Code → Code
  -- the next slot is a closure of a label's block, which takes the values of these slots
  closure : List ℕ → ℕ → Code → Code
  test : Test → ℕ → Code → Code → Code
  ends : Ending → Code

-- how it is entered, the types of what its closures take, and what it does; slots for what was taken come first, then those of
-- the closure itself, the argument and, of a call, the continuation
pub record Block : Type 0 where
  pub entry : Entry
  pub environment : List SlotType
  pub code : Code

-- a primitive that is a value somewhere, with its label
pub record Named : Type 0 where
  pub label : ℕ
  pub primitive : Primitive

-- the blocks by label, the labels of primitives, of main's block, and of the block that ends a thread
pub record Blocks : Type 0 where
  pub table : List Block
  pub primitives : List Named
  pub main : ℕ
  pub finish : ℕ

-- the primitive of a label
abbrev pub primitive_at : List Named → ℕ → Option Primitive
primitive_at [] i = None
primitive_at (a ∷ ps) i = if a.label == i then Some a.primitive else primitive_at ps i
