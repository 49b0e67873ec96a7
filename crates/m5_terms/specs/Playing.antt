-- Behaviours of an output and its input at once: whatever lawful answers the input gets, both go on alike.
use Rattle.std.specs.Prelude.{◌≡◌, ◌⊎◌, ℕ, List, [], ◌∷◌, Option, Some}
use Rattle.m5_terms.specs.Machine.{asks, Comes, Machine, Exchange, GoesWrong}
use Rattle.m5_terms.specs.Matching.{Reading, Moments, Meeting, MeetsAt}

-- the input comes to an ask to which this one of the output is read back
pub record AsksToo (S T : Machine) (R : Reading S T) (a : T.Ask) (from : S.State) : Type 0 where
  pub steps : ℕ
  pub waiting : S.State
  pub comes : Comes S.next steps from waiting
  pub ask : S.Ask
  pub resume : S.Answer → Option S.State
  pub asking : S.next waiting ≡ asks ask resume
  pub reads : R.ask a ask

-- the state comes to this ask, its next one, and the answer makes the other state of it; nothing is said of which answers are lawful
pub record AsksFor (M : Machine) (from : M.State) (x : Exchange M) (to : M.State) : Type 0 where
  pub steps : ℕ
  pub waiting : M.State
  pub comes : Comes M.next steps from waiting
  pub resume : M.Answer → Option M.State
  pub asking : M.next waiting ≡ asks x.ask resume
  pub resumed : resume x.answer ≡ Some to

abbrev pub Acts : (M : Machine) → List (Exchange M) → M.State → M.State → Type 0
Acts M [] from to = from ≡ to
Acts M (x ∷ xs) from to = (mid : M.State) × AsksFor M from x mid × Acts M xs mid to

-- answers of the input to which those of the output are read back
abbrev pub AnswersRead : (S T : Machine) → Reading S T → List (Exchange T) → List S.Answer → Type 0
AnswersRead S T R [] [] = Unit {0}
AnswersRead S T R (x ∷ xs) (c ∷ cs) = R.answer x.answer c × AnswersRead S T R xs cs
AnswersRead S T R [] (c ∷ cs) = ⊥
AnswersRead S T R (x ∷ xs) [] = ⊥

module _ (S T : Machine) (R : Reading S T) (X : Moments S) (Y : Moments T) (E : Meeting S T X Y) where
  -- unless the input goes wrong: the output's next ask is the input's, it goes wrong only with the input, and each of its
  -- moments is met
  pub record IsFollowed (t : T.State) (s : S.State) : Type 0 where
    pub on_ask : (n : ℕ) (at : T.State) (a : T.Ask) (resume : T.Answer → Option T.State) → Comes T.next n t at → T.next at ≡ asks a resume → GoesWrong S s ⊎ AsksToo S T R a s
    pub on_wrong : GoesWrong T t → GoesWrong S s
    pub on_moment : (n : ℕ) (at : T.State) (m : Y at) → Comes T.next n t at → GoesWrong S s ⊎ MeetsAt S T X Y E at m s

  -- unless the input goes wrong: it asks what the output asked, goes on as long as its answers are lawful, and then stands and
  -- goes on as the output does
  abbrev pub Plays : List (Exchange T) → List S.Answer → T.State → S.State → Type 0
  Plays [] [] to s = R.state to s × IsFollowed to s
  Plays (x ∷ xs) (c ∷ cs) to s = GoesWrong S s ⊎ ((y : AsksToo S T R x.ask s) × (S.lawful y.waiting c → (at : S.State) × (y.resume c ≡ Some at) × Plays xs cs to at))
  Plays [] (c ∷ cs) to s = ⊥
  Plays (x ∷ xs) [] to s = ⊥

  -- so it is with all asks that the output makes, and all answers
  abbrev pub PlaysAlways : T.State → S.State → Type 0
  PlaysAlways t s = (xs : List (Exchange T)) (cs : List S.Answer) (to : T.State) → Acts T xs t to → AnswersRead S T R xs cs → Plays xs cs to s

  -- of an input that never goes wrong: the next ask is the input's, the output is not wrong, each moment is met
  pub record IsFollowedFully (t : T.State) (s : S.State) : Type 0 where
    pub on_ask : (n : ℕ) (at : T.State) (a : T.Ask) (resume : T.Answer → Option T.State) → Comes T.next n t at → T.next at ≡ asks a resume → AsksToo S T R a s
    pub right : GoesWrong T t → ⊥
    pub on_moment : (n : ℕ) (at : T.State) (m : Y at) → Comes T.next n t at → MeetsAt S T X Y E at m s

  abbrev pub PlaysFully : List (Exchange T) → List S.Answer → T.State → S.State → Type 0
  PlaysFully [] [] to s = R.state to s × IsFollowedFully to s
  PlaysFully (x ∷ xs) (c ∷ cs) to s = (y : AsksToo S T R x.ask s) × (S.lawful y.waiting c → (at : S.State) × (y.resume c ≡ Some at) × PlaysFully xs cs to at)
  PlaysFully [] (c ∷ cs) to s = ⊥
  PlaysFully (x ∷ xs) [] to s = ⊥

  abbrev pub PlaysAlwaysFully : T.State → S.State → Type 0
  PlaysAlwaysFully t s = (xs : List (Exchange T)) (cs : List S.Answer) (to : T.State) → Acts T xs t to → AnswersRead S T R xs cs → PlaysFully xs cs to s
