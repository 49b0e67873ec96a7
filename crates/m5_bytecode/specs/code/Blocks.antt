-- Blocks at the front of bytes, and what is known once they were read.
use Rattle.std.specs.Prelude.{◌≡◌, ℕ, suc, ◌+◌, ◌<◌, ◌≤◌, ◌^◌, List, [], ◌∷◌, ◌++◌, length}
use Rattle.std.specs.List.{flat_map}
use Rattle.m5_machine.specs.declared.step.Step.{Step}
use Rattle.m5_machine.specs.Labelled.{Labelled}
use Rattle.m5_machine.specs.code.Flattened.{IsLaid, AllFit, Rising, EachStep, EachBlock}
use Rattle.m5_bytecode.specs.declared.input.CodeEnd.{CodeEnd}
use Rattle.m5_bytecode.specs.declared.input.CodeEnd.TheVariants.{Bad, Memory}
use Rattle.m5_bytecode.specs.Spelling.{block_bytes}
use Rattle.m5_bytecode.specs.code.Bodies.{IsServerStep}

-- so many blocks are spelled here and nothing else, their labels from one on
pub record BlocksHere (from count : ℕ) (bytes : List ℕ) : Type 0 where
  pub blocks : List Labelled
  pub is : bytes ≡ flat_map block_bytes blocks
  pub rising : Rising from blocks
  pub fit : AllFit blocks
  pub good : EachBlock IsServerStep blocks
  pub count_is : length blocks ≡ count
  pub short : length bytes < 2 ^ 32

abbrev pub NoBlock : CodeEnd → ℕ → List ℕ → Type 0
NoBlock Bad from bytes = (count : ℕ) → BlocksHere from (suc count) bytes → ⊥
NoBlock Memory from bytes = Unit {0}

-- a block was read, and laid out behind the others
pub record BlockRead (old : List ℕ) (starts : List ℕ) (ss : List Step) (new : List ℕ) (after : List ℕ) (more : List Step) : Type 0 where
  pub block : Labelled
  pub is : old ≡ block_bytes block ++ new
  pub good : EachStep IsServerStep block.body
  pub label : block.label < 65536
  pub next : length after ≡ block.label + 1
  pub laid : (bs : List Labelled) → IsLaid starts ss bs → length ss < 4294967295 → IsLaid after more (bs ++ block ∷ [])

-- so many blocks were read, and laid out
pub record BlocksRead (old new starts : List ℕ) (ss : List Step) (count : ℕ) : Type 0 where
  pub blocks : List Labelled
  pub is : old ≡ flat_map block_bytes blocks ++ new
  pub good : EachBlock IsServerStep blocks
  pub laid : IsLaid starts ss blocks
  pub labels : length starts ≤ 65536
  pub count_is : length blocks ≡ count
