-- Bodies at the front of bytes, and what is known once one was read.
use Rattle.std.specs.Prelude.{◌≡◌, ℕ, ◌+◌, ◌<◌, ◌≤◌, ◌^◌, List, [], ◌∷◌, ◌++◌, length, Bool, true, not, ◌==◌}
use Rattle.m5_machine.specs.declared.step.Step.{Step}
use Rattle.m5_machine.specs.declared.step.Step.TheVariants as steps
use Rattle.m5_machine.specs.Body.{Body, depth}
use Rattle.m5_machine.specs.Numbers.{IsStep}
use Rattle.m5_machine.specs.code.Flattened.{flattened, EachStep}
use Rattle.m5_bytecode.specs.declared.input.CodeEnd.{CodeEnd}
use Rattle.m5_bytecode.specs.declared.input.CodeEnd.TheVariants.{Bad, Memory}
use Rattle.m5_bytecode.specs.Spelling.{two, four, instruction_bytes, body_bytes}
use Rattle.m5_bytecode.specs.Server.{server_step}

-- the places that stand for a block
abbrev pub has_block : ℕ → Bool
has_block start = not (start == 4294967295)

-- the bytes of one step; the length of a first body stands as the place of the second
abbrev pub step_bytes : Step → List ℕ
step_bytes (steps.Fill i) = instruction_bytes i
step_bytes (steps.If slot length) = 0x20 ∷ (two slot ++ four length)
step_bytes (steps.Go closure value) = 0x21 ∷ (two closure ++ two value)
step_bytes (steps.Ask primitive argument next) = 0x22 ∷ primitive ∷ (two argument ++ two next)
step_bytes (steps.Send world closure value) = 0x23 ∷ world ∷ (two closure ++ two value)
step_bytes steps.Done = 0x24 ∷ []

-- a server's step, whose numbers are ones that its type holds
pub record IsServerStep (s : Step) : Type 0 where
  pub server : server_step s ≡ true
  pub numbers : IsStep s

-- a step was read at the front of bytes
pub record StepRead (old : List ℕ) (s : Step) (new : List ℕ) : Type 0 where
  pub is : old ≡ step_bytes s ++ new
  pub good : IsServerStep s

-- a body is spelled here, where so many endings are open with its outermost
pub record BodyHere (level : ℕ) (bytes : List ℕ) : Type 0 where
  pub body : Body
  pub rest : List ℕ
  pub is : bytes ≡ body_bytes body ++ rest
  pub good : EachStep IsServerStep body
  pub deep : depth body + level ≤ 1001
  pub short : length bytes < 2 ^ 32

-- a body was read, and its steps were added
pub record BodyRead (level : ℕ) (old : List ℕ) (before : List Step) (new : List ℕ) (after : List Step) : Type 0 where
  pub body : Body
  pub is : old ≡ body_bytes body ++ new
  pub steps : after ≡ before ++ flattened body
  pub good : EachStep IsServerStep body
  pub deep : depth body + level ≤ 1001

abbrev pub NoBody : CodeEnd → ℕ → List ℕ → Type 0
NoBody Bad level bytes = BodyHere level bytes → ⊥
NoBody Memory level bytes = Unit {0}
