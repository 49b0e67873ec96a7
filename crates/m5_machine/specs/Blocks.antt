-- Blocks by label: one list of steps, and the bodies that begin at its places.
use Rattle.std.specs.Prelude.{◌≡◌, ℕ, suc, ◌+◌, ◌<◌, ◌≤◌, ◌^◌, List, [], ◌∷◌, length, drop, Option, Some, None, slice_get, ◌==◌, if◌then◌else◌}
use Rattle.m5_machine.specs.declared.step.Step.{Step}
use Rattle.m5_machine.specs.declared.step.Step.TheVariants as steps
use Rattle.m5_machine.specs.Body.{Body, Then, If, Go, Ask, Send, Done, bodies, fills, depth}

-- where the block of each label begins, and the steps of all blocks
pub record Flat : Type 0 where
  pub starts : List ℕ
  pub steps : List Step

abbrev pub first_or_done : List Body → Body
first_or_done [] = Done
first_or_done (b ∷ bs) = b

abbrev pub all_but_first : List Body → List Body
all_but_first [] = []
all_but_first (b ∷ bs) = bs

-- the body that begins at a place
unfoldable pub body_at : Flat → ℕ → Body
body_at code at = first_or_done (bodies (drop at code.steps))

-- a body begins there
unfoldable pub HasBody : Flat → ℕ → Type 0
HasBody code at = 0 < length (bodies (drop at code.steps))

-- what the step at a place says of the body there
abbrev pub Shows : Flat → ℕ → Step → Type 0
Shows code at (steps.Fill i) =
    (body_at code at ≡ Then i (body_at code (at + 1))) × HasBody code (at + 1) × (at + 1 < 2 ^ 32)
Shows code at (steps.If slot place) =
    (body_at code at ≡ If slot (body_at code (at + 1)) (body_at code place))
    × HasBody code (at + 1) × HasBody code place × (at + 1 < 2 ^ 32)
Shows code at (steps.Go closure value) = body_at code at ≡ Go closure value
Shows code at (steps.Ask primitive argument next) = body_at code at ≡ Ask primitive argument next
Shows code at (steps.Send world closure value) = body_at code at ≡ Send world closure value
Shows code at steps.Done = body_at code at ≡ Done

-- a block begins there: a body that has slots enough beside the closure and the argument, and whose
-- endings nest at most 1,000 deep
pub record BeginsBlock (code : Flat) (start : ℕ) : Type 0 where
  pub body : HasBody code start
  pub room : fills (body_at code start) ≤ 65534
  pub nesting : depth (body_at code start) ≤ 1000

-- where the block of a label begins: 2 ^ 32 - 1 stands for none
abbrev pub start_in : Option ℕ → Option ℕ
start_in None = None
start_in (Some start) = if start == 4294967295 then None else Some start

abbrev pub start_of : Flat → ℕ → Option ℕ
start_of code label = start_in (slice_get code.starts label)

abbrev pub StartOf : Flat → ℕ → Option ℕ → Type 0
StartOf code label None = start_of code label ≡ None
StartOf code label (Some start) = (start_of code label ≡ Some start) × BeginsBlock code start

-- Each step has the bodies that it wants behind it, and an `If` names the place of its second body.
abbrev pub StandsBefore : Flat → ℕ → Step → Type 0
StandsBefore code at (steps.Fill i) = 0 < length (bodies (drop (suc at) code.steps))
StandsBefore code at (steps.If slot place) =
    (1 < length (bodies (drop (suc at) code.steps)))
    × (bodies (drop place code.steps) ≡ all_but_first (bodies (drop (suc at) code.steps)))
StandsBefore code at (steps.Go closure value) = Unit {0}
StandsBefore code at (steps.Ask primitive argument next) = Unit {0}
StandsBefore code at (steps.Send world closure value) = Unit {0}
StandsBefore code at steps.Done = Unit {0}

pub record IsFlat (code : Flat) : Type 0 where
  pub steps : (at : ℕ) (s : Step) → slice_get code.steps at ≡ Some s → StandsBefore code at s
  pub starts : (label start : ℕ) → start_of code label ≡ Some start → BeginsBlock code start
  pub small : length code.steps < 2 ^ 32
