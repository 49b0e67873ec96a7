-- What a pass owes at one state, so that its output goes on as its input does, whatever lawful answers the input gets.
use Rattle.std.specs.Prelude.{◌≡◌, ◌⊎◌, ℕ, Option, Some}
use Rattle.m5_terms.specs.Machine.{goes, asks, wrong, Comes, Machine, GoesWrong}

-- which states, asks and answers of the input those of the output are read back to
pub record Reading (Input Output : Machine) : Type 1 where
  pub state : Output.State → Input.State → Type 0
  pub ask : Output.Ask → Input.Ask → Type 0
  pub answer : Output.Answer → Input.Answer → Type 0

-- by one state, ask or answer between, after two passes
abbrev pub then_reads : (A B C : Machine) → Reading A B → Reading B C → Reading A C
then_reads A B C R Q = record {
  state = λ c a. (b : B.State) × Q.state c b × R.state b a;
  ask = λ c a. (b : B.Ask) × Q.ask c b × R.ask b a;
  answer = λ c a. (b : B.Answer) × Q.answer c b × R.answer b a;
}

-- the input comes to a state to which the output's is read back
pub record Reaches (S T : Machine) (R : Reading S T) (t : T.State) (from : S.State) : Type 0 where
  pub steps : ℕ
  pub at : S.State
  pub comes : Comes S.next steps from at
  pub reads : R.state t at

-- the input asks the same; of each lawful answer that it gets, an answer of the output that is read back to it is lawful too,
-- and what both make of these answers is read back
pub record AsksAlike (S T : Machine) (R : Reading S T) (t : T.State) (a : T.Ask) (output_resume : T.Answer → Option T.State) (from : S.State) : Type 0 where
  pub steps : ℕ
  pub waiting : S.State
  pub comes : Comes S.next steps from waiting
  pub ask : S.Ask
  pub resume : S.Answer → Option S.State
  pub asking : S.next waiting ≡ asks ask resume
  pub reads : R.ask a ask
  pub lawful : (b : T.Answer) (c : S.Answer) → R.answer b c → S.lawful waiting c → T.lawful t b
  pub after : (b : T.Answer) (to : T.State) (c : S.Answer) → R.answer b c → S.lawful waiting c → output_resume b ≡ Some to → (at : S.State) × (resume c ≡ Some at) × R.state to at

-- each local step, ask and wrong state of the output, from the state to which it is read back
pub record Matches (S T : Machine) (R : Reading S T) : Type 0 where
  pub on_step : (t to : T.State) (s : S.State) → R.state t s → T.next t ≡ goes to → GoesWrong S s ⊎ Reaches S T R to s
  pub on_ask : (t : T.State) (a : T.Ask) (resume : T.Answer → Option T.State) (s : S.State) → R.state t s → T.next t ≡ asks a resume → GoesWrong S s ⊎ AsksAlike S T R t a resume s
  pub on_wrong : (t : T.State) (s : S.State) → R.state t s → T.next t ≡ wrong → GoesWrong S s

-- the moments of a state: about to enter a block, or to make an object
abbrev pub Moments : Machine → Type 1
Moments M = M.State → Type 0

-- what has to hold of a moment of the output and one to which the input comes
abbrev pub Meeting : (S T : Machine) → Moments S → Moments T → Type 1
Meeting S T X Y = (t : T.State) → Y t → (s : S.State) → X s → Type 0

-- by one moment between, after two passes
abbrev pub then_meets : (A B C : Machine) (X : Moments A) (Y : Moments B) (Z : Moments C) → Meeting A B X Y → Meeting B C Y Z → Meeting A C X Z
then_meets A B C X Y Z E F = λ c k a l. (b : B.State) × (m : Y b) × F c k b m × E b m a l

-- the input comes to a moment that meets this one
pub record MeetsAt (S T : Machine) (X : Moments S) (Y : Moments T) (E : Meeting S T X Y) (t : T.State) (m : Y t) (from : S.State) : Type 0 where
  pub steps : ℕ
  pub at : S.State
  pub comes : Comes S.next steps from at
  pub moment : X at
  pub met : E t m at moment

-- each moment of the output is met
abbrev pub AreMet : (S T : Machine) → Reading S T → (X : Moments S) (Y : Moments T) → Meeting S T X Y → Type 0
AreMet S T R X Y E = (t : T.State) (s : S.State) → R.state t s → (m : Y t) → GoesWrong S s ⊎ MeetsAt S T X Y E t m s
