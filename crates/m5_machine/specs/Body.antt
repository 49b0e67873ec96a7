-- Bodies: instructions, and then an ending.
use Rattle.std.specs.Prelude.{ℕ, suc, max, List, [], ◌∷◌}
use Rattle.m5_machine.specs.declared.step.Instruction.{Instruction}
use Rattle.m5_machine.specs.declared.step.Step.{Step}
use Rattle.m5_machine.specs.declared.step.Step.TheVariants as steps

pub data Body : Type 0 where
  Then : (instruction : Instruction) (next : Body) → Body
  If : (slot : ℕ) (yes no : Body) → Body
  Go : (closure value : ℕ) → Body
  Ask : (primitive argument next : ℕ) → Body
  Send : (world closure value : ℕ) → Body
  Done : Body

-- the greatest number of slots that a body fills along a path
unfoldable pub fills : Body → ℕ
fills (Then i b) = suc (fills b)
fills (If s a b) = max (fills a) (fills b)
fills (Go closure value) = 0
fills (Ask primitive argument next) = 0
fills (Send world closure value) = 0
fills Done = 0

-- how many endings are open at once, the outermost among them
unfoldable pub depth : Body → ℕ
depth (Then i b) = depth b
depth (If s a b) = suc (max (depth a) (depth b))
depth (Go closure value) = 1
depth (Ask primitive argument next) = 1
depth (Send world closure value) = 1
depth Done = 1

-- Steps spell bodies one after the other, read from the right: an instruction goes onto the body
-- behind it, an `If` onto the two bodies behind it.
abbrev pub one : (Body → Body) → List Body → List Body
one make [] = []
one make (b ∷ bs) = make b ∷ bs

abbrev pub two : (Body → Body → Body) → List Body → List Body
two make [] = []
two make (a ∷ []) = []
two make (a ∷ b ∷ bs) = make a b ∷ bs

abbrev pub onto : Step → List Body → List Body
onto (steps.Fill i) bs = one (Then i) bs
onto (steps.If slot place) bs = two (If slot) bs
onto (steps.Go closure value) bs = Go closure value ∷ bs
onto (steps.Ask primitive argument next) bs = Ask primitive argument next ∷ bs
onto (steps.Send world closure value) bs = Send world closure value ∷ bs
onto steps.Done bs = Done ∷ bs

abbrev pub bodies : List Step → List Body
bodies [] = []
bodies (s ∷ ss) = onto s (bodies ss)
