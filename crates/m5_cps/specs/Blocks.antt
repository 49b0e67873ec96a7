-- Blocks as plain data: straight forms, each of which fills the next slot, and an ending. Numbers name slots.
use Rattle.std.specs.Prelude.{ℕ, List}
use Rattle.m5_terms.specs.declared.types.Primitive.{Primitive}
use Rattle.m5_terms.specs.declared.form.LeafForm.{LeafForm}
use Rattle.m5_terms.specs.declared.form.UnaryForm.{UnaryForm}
use Rattle.m5_terms.specs.declared.form.BinaryForm.{BinaryForm}
use Rattle.m5_cps.specs.Entries.{Entry}

-- a form whose value fills the next slot
pub data Straight : Type 0 where
  -- the value of a form without parts; `here` is the address of the site's world
  constant : LeafForm → Straight
  -- what a form makes of the values of its parts
  one : UnaryForm → ℕ → Straight
  two : BinaryForm → ℕ → ℕ → Straight
  -- what is held or in a sham
  unheld : ℕ → Straight
  unsham : ℕ → Straight
  -- unit; a thread begins that enters the closure with unit
  spawn : ℕ → Straight

-- what a block may ask of a value, to go on in one of two ways; of a sum or a list the parts fill the next slots
pub data Test : Type 0 where
  if_true if_left if_nil if_here : Test

-- how a block ends
pub data Ending : Type 0 where
  -- enter the closure of the first slot with the second
  go : ℕ → ℕ → Ending
  -- call the function of the first slot with the second, to go on with the third
  call : ℕ → ℕ → ℕ → Ending
  -- ask by a primitive with the argument in the first slot, to go on with the second
  ask : Primitive → ℕ → ℕ → Ending
  -- to the address in the first slot, the closure of the second with the third
  send : ℕ → ℕ → ℕ → Ending
  -- the thread is over
  done : Ending

pub data Code : Type 0 where
  straight : Straight → Code → Code
  -- the next slot is a closure of the first block over all slots that are filled
  closure : Entry → Code → Code → Code
  test : Test → ℕ → Code → Code → Code
  ends : Ending → Code

-- a block over no slots, with how it is entered
pub record Block : Type 0 where
  pub entry : Entry
  pub code : Code

-- the blocks of the declared functions, in their order, each with its closure, argument and continuation in slots 0, 1 and 2,
-- and main's, with its closure and unit in slots 0 and 1
pub record Blocks : Type 0 where
  pub functions : List Block
  pub main : Code
