-- Machines that go by local steps to their next ask, which carries what each answer makes of them, and their behaviours.
use Rattle.std.specs.Prelude.{◌≡◌, ℕ, zero, suc, List, [], ◌∷◌, Option, Some}

-- what a state does next: a local step, an ask with what each answer makes of the state, or nothing that the rules allow
pub data Next (State Ask Answer : Type 0) : Type 0 where
  goes : State → Next State Ask Answer
  asks : Ask → (Answer → Option State) → Next State Ask Answer
  wrong : Next State Ask Answer

-- so many local steps lead from one state to the other
abbrev pub Comes : {State Ask Answer : Type 0} → (State → Next State Ask Answer) → ℕ → State → State → Type 0
Comes next zero s t = s ≡ t
Comes {State} {Ask} {Answer} next (suc n) s t = (m : State) × (next s ≡ goes m) × Comes next n m t

-- a kind of machine; `lawful` says which answers may come where a state asks
pub record Machine : Type 1 where
  pub State : Type 0
  pub Ask : Type 0
  pub Answer : Type 0
  pub next : State → Next State Ask Answer
  pub lawful : State → Answer → Type 0

-- an ask with its answer
pub record Exchange (M : Machine) : Type 0 where
  pub ask : M.Ask
  pub answer : M.Answer

-- the state comes to this ask, its next one, where the answer is lawful and makes the other state of it
pub record Exchanges (M : Machine) (from : M.State) (x : Exchange M) (to : M.State) : Type 0 where
  pub steps : ℕ
  pub waiting : M.State
  pub comes : Comes M.next steps from waiting
  pub resume : M.Answer → Option M.State
  pub asking : M.next waiting ≡ asks x.ask resume
  pub lawful : M.lawful waiting x.answer
  pub resumed : resume x.answer ≡ Some to

-- a lawful behaviour that leads from one state to the other: asks with their answers, each the next ask after those before it
abbrev pub Behaves : (M : Machine) → List (Exchange M) → M.State → M.State → Type 0
Behaves M [] from to = from ≡ to
Behaves M (x ∷ xs) from to = (mid : M.State) × Exchanges M from x mid × Behaves M xs mid to

-- local steps lead to where the rules allow nothing
pub record GoesWrong (M : Machine) (from : M.State) : Type 0 where
  pub steps : ℕ
  pub at : M.State
  pub comes : Comes M.next steps from at
  pub stuck : M.next at ≡ wrong

-- some lawful behaviour leads to where it goes wrong
pub record Fails (M : Machine) (from : M.State) : Type 0 where
  pub exchanges : List (Exchange M)
  pub at : M.State
  pub behaves : Behaves M exchanges from at
  pub goes_wrong : GoesWrong M at

-- no lawful behaviour goes wrong
abbrev pub IsSound : (M : Machine) → M.State → Type 0
IsSound M s = Fails M s → ⊥
