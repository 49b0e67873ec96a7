-- Which blocks are a server's code.
use Rattle.std.specs.Prelude.{◌≡◌, ℕ, ◌<◌, ◌≤◌, ◌^◌, List, length, All, Bool, true, false, IsTrue, nat_le, ◌==◌, ◌&&◌, ◌||◌}
use Rattle.std.specs.List.{list_all, sum_by}
use Rattle.m5_terms.specs.Text.{text_byte}
use Rattle.m5_machine.specs.declared.step.Instruction.{Instruction}
use Rattle.m5_machine.specs.declared.step.Instruction.TheVariants as i
use Rattle.m5_machine.specs.declared.step.Step.{Step}
use Rattle.m5_machine.specs.declared.step.Step.TheVariants as steps
use Rattle.m5_machine.specs.Blocks.{Flat, IsFlat}
use Rattle.m5_machine.specs.Labelled.{blocks_of}
use Rattle.m5_machine.specs.Numbers.{IsStep}
use Rattle.m5_bytecode.specs.declared.input.CodeEnd.{CodeEnd}
use Rattle.m5_bytecode.specs.declared.input.CodeEnd.TheVariants.{Bad, Memory}
use Rattle.m5_bytecode.specs.Spelling.{instruction_bytes, code_bytes}

-- a server's instructions: each text is one that a program's text may be, and `Same` is none
abbrev pub server_instruction : Instruction → Bool
server_instruction i.Unit = true
server_instruction (i.Bool b) = true
server_instruction (i.Int n) = true
server_instruction (i.Text bytes) = list_all text_byte bytes
server_instruction (i.Array slots) = true
server_instruction (i.Field s place) = true
server_instruction (i.Add a b) = true
server_instruction (i.Sub a b) = true
server_instruction (i.Mul a b) = true
server_instruction (i.Quo a b) = true
server_instruction (i.Cat a b) = true
server_instruction (i.Str a) = true
server_instruction (i.EqualInts a b) = true
server_instruction (i.Less a b) = true
server_instruction (i.EqualTexts a b) = true
server_instruction (i.Same a b) = false
server_instruction (i.Cell s) = true
server_instruction (i.Load s) = true
server_instruction (i.Store s v) = true
server_instruction (i.Spawn s) = true

-- a server asks read, write and watch, codes 4 to 6, and sends to home and panel, worlds 0 and 2
abbrev pub server_step : Step → Bool
server_step (steps.Fill i) = server_instruction i
server_step (steps.If slot place) = true
server_step (steps.Go closure value) = true
server_step (steps.Ask primitive argument next) = nat_le 4 primitive && nat_le primitive 6
server_step (steps.Send world closure value) = world == 0 || world == 2
server_step steps.Done = true

-- how many bytes a step's own spelling has
abbrev pub step_length : Step → ℕ
step_length (steps.Fill i) = length (instruction_bytes i)
step_length (steps.If slot place) = 7
step_length (steps.Go closure value) = 5
step_length (steps.Ask primitive argument next) = 6
step_length (steps.Send world closure value) = 6
step_length steps.Done = 1

abbrev pub steps_length : List Step → ℕ
steps_length ss = sum_by step_length ss

-- blocks of a server's steps, at most 65,535 of them, whose steps and whose spelling have fewer than
-- 2 ^ 32 bytes
pub record IsServerCode (code : Flat) : Type 0 where
  pub flat : IsFlat code
  pub steps : IsTrue (list_all server_step code.steps)
  pub small : steps_length code.steps < 2 ^ 32
  pub labels : length code.starts ≤ 65536
  pub count : length (blocks_of code) < 2 ^ 16
  pub short : length (code_bytes code) < 2 ^ 32

-- the code is a server's, its numbers are ones that the types hold, and it has this spelling
pub record Spells (code : Flat) (bytes : List ℕ) : Type 0 where
  pub server : IsServerCode code
  pub numbers : All IsStep code.steps
  pub spelled : code_bytes code ≡ bytes

-- want of memory may end a reading anywhere, a fault where no code has the bytes
abbrev pub NoCode : CodeEnd → List ℕ → Type 0
NoCode Bad bytes = (code : Flat) → Spells code bytes → ⊥
NoCode Memory bytes = Unit {0}
