-- Blocks under labels in one list of steps, with the place where each begins.
use Rattle.std.specs.Prelude.{◌≡◌, ℕ, suc, ◌<◌, ◌≤◌, List, map, length, Option, Some, None}
use Rattle.std.specs.List.{AllByRecursion as Each}
use Rattle.m5_terms.specs.TypeExpression.{TypeExpression}
use Rattle.m5_cps.specs.Blocks.{done}
use Rattle.m5_cps.specs.Steps.{entry_of, straight_of, test_of, ending_of}
use Rattle.m5_flat.specs.Blocks.{Code, straight, closure, test, ends, Block, Blocks}
use Rattle.m5_flat.specs.Program.{IsProgram}
use Rattle.m5_flat.specs.Steps.{kind_of, named_of, code_at}
use Rattle.m5_flat.specs.declared.label.Label.{Label}
use Rattle.m5_flat.specs.declared.label.Named.{Named}
use Rattle.m5_flat.specs.declared.step.Step.{Step}
use Rattle.m5_flat.specs.declared.step.Step.TheVariants as steps

-- the types by number, the steps by place, the labels of blocks and of primitives, and the labels of main's block and of the one
-- that ends a thread
pub record Table : Type 0 where
  pub types : List TypeExpression
  pub steps : List Step
  pub labels : List Label
  pub primitives : List Named
  pub main : ℕ
  pub finish : ℕ

abbrev pub or_done : Option Code → Code
or_done None = ends done
or_done (Some c) = c

-- code begins at the place
pub record HasCode (t : Table) (p : ℕ) : Type 0 where
  pub code : Code
  pub is : code_at t.types t.steps p ≡ Some code

-- the code that begins at the place, and a thread's end where there is none
abbrev pub code_in : Table → ℕ → Code
code_in t p = or_done (code_at t.types t.steps p)

abbrev pub block_of : Table → Label → Block
block_of t l = record { entry = entry_of t.types l.entry; environment = map (kind_of t.types) l.environment; code = code_in t l.place }

-- the blocks that the table stands for
abbrev pub blocks_of : Table → Blocks
blocks_of t = record { table = map (block_of t) t.labels; primitives = map named_of t.primitives; main = t.main; finish = t.finish }

-- what each table keeps: its blocks begin, and are a program's
pub record IsTable (t : Table) : Type 0 where
  pub begin : Each (λ (l : Label). HasCode t l.place) t.labels
  pub program : IsProgram (blocks_of t)

-- a label is a number of two bytes, and 65,535 is none
pub record HasFewLabels (t : Table) : Type 0 where
  pub few : length t.labels ≤ 65535

-- a place that the step at p names, where code begins: it is behind
pub record Names (t : Table) (p q : ℕ) : Type 0 where
  pub behind : p < q
  pub code : HasCode t q

-- what the step at a place says of the code there
abbrev pub Shows : Table → ℕ → Step → Type 0
Shows t p (steps.Straight f) = (code_in t p ≡ straight (straight_of t.types f) (code_in t (suc p))) × Names t p (suc p)
Shows t p (steps.Closure ls i next) = (code_in t p ≡ closure ls i (code_in t next)) × Names t p next
Shows t p (steps.Test x l second) = (code_in t p ≡ test (test_of x) l (code_in t (suc p)) (code_in t second)) × Names t p (suc p) × Names t p second
Shows t p (steps.Ends e) = code_in t p ≡ ends (ending_of e)
