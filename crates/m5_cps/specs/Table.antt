-- Blocks in one list of steps, with the places where those of the functions and of main begin.
use Rattle.std.specs.Prelude.{◌≡◌, ℕ, suc, ◌<◌, List, map, Option, Some, None}
use Rattle.std.specs.List.{AllByRecursion as Each}
use Rattle.m5_terms.specs.TypeExpression.{TypeExpression}
use Rattle.m5_cps.specs.Blocks as blocks
use Rattle.m5_cps.specs.Blocks.{Code, straight, closure, test, ends, done, Block, Blocks}
use Rattle.m5_cps.specs.Program.{IsProgram}
use Rattle.m5_cps.specs.Steps.{entry_of, straight_of, test_of, ending_of, code_at}
use Rattle.m5_cps.specs.declared.step.Step.{Step}
use Rattle.m5_cps.specs.declared.step.Step.TheVariants as steps
use Rattle.m5_cps.specs.declared.cps.Start.{Start}

-- the types by number, the steps by place, the declared functions' blocks in their order, and the place where main's begins
pub record Table : Type 0 where
  pub types : List TypeExpression
  pub steps : List Step
  pub functions : List Start
  pub main : ℕ

abbrev pub or_done : Option Code → Code
or_done None = ends done
or_done (Some c) = c

-- code begins at the place
pub record HasCode (t : Table) (p : ℕ) : Type 0 where
  pub code : Code
  pub is : code_at t.types t.steps p ≡ Some code

-- the code that begins at the place, and a thread's end where there is none
abbrev pub code_in : Table → ℕ → Code
code_in t p = or_done (code_at t.types t.steps p)

abbrev pub block_of : Table → Start → Block
block_of t s = record { entry = entry_of t.types s.entry; code = code_in t s.place }

-- the blocks that the table stands for
abbrev pub blocks_of : Table → Blocks
blocks_of t = record { functions = map (block_of t) t.functions; main = code_in t t.main }

-- code begins where each block does
pub record BlocksBegin (t : Table) : Type 0 where
  pub functions : Each (λ s. HasCode t s.place) t.functions
  pub main : HasCode t t.main

-- what each table of the type `Cps` keeps: its blocks begin, and are a program's
pub record IsTable (t : Table) : Type 0 where
  pub begin : BlocksBegin t
  pub program : IsProgram (blocks_of t)

-- a place that the step at p names, where code begins: it is behind
pub record Names (t : Table) (p q : ℕ) : Type 0 where
  pub behind : p < q
  pub code : HasCode t q

-- what the step at a place says of the code there
abbrev pub Shows : Table → ℕ → Step → Type 0
Shows t p (steps.Straight f) = (code_in t p ≡ straight (straight_of t.types f) (code_in t (suc p))) × Names t p (suc p)
Shows t p (steps.Closure y b next) = (code_in t p ≡ closure (entry_of t.types y) (code_in t b) (code_in t next)) × Names t p b × Names t p next
Shows t p (steps.Test x l second) = (code_in t p ≡ test (test_of x) l (code_in t (suc p)) (code_in t second)) × Names t p (suc p) × Names t p second
Shows t p (steps.Ends e) = code_in t p ≡ ends (ending_of e)
