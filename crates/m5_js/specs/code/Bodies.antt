-- Bodies at the front of a text, and what is known once one was read.
use Rattle.std.specs.Prelude.{◌≡◌, ℕ, ◌+◌, ◌≤◌, List, ◌++◌, codes}
use Rattle.m5_machine.specs.declared.step.Step.{Step}
use Rattle.m5_machine.specs.declared.step.Step.TheVariants as steps
use Rattle.m5_machine.specs.Body.{Body, fills, depth}
use Rattle.m5_machine.specs.code.Flattened.{flattened, EachStep}
use Rattle.m5_js.specs.declared.input.LineEnd.{LineEnd}
use Rattle.m5_js.specs.declared.input.LineEnd.TheVariants.{Bad, Memory}
use Rattle.m5_js.specs.Page.{IsPageStep}
use Rattle.m5_js.specs.Spelling.{statement_text, branch_text, go_text, ask_text, send_text, body_text}

-- the text of one step, where constants are numbered from here
abbrev pub step_text : ℕ → Step → List ℕ
step_text n (steps.Fill i) = statement_text n i
step_text n (steps.If slot place) = branch_text slot
step_text n (steps.Go closure value) = go_text closure value
step_text n (steps.Ask primitive argument next) = ask_text primitive argument next
step_text n (steps.Send world closure value) = send_text world closure value
step_text n steps.Done = codes "return done(); "

-- a constant has a number up to 65,533
abbrev pub RoomFor : ℕ → Step → Type 0
RoomFor n (steps.Fill i) = n ≤ 65533
RoomFor n (steps.If slot place) = Unit {0}
RoomFor n (steps.Go closure value) = Unit {0}
RoomFor n (steps.Ask primitive argument next) = Unit {0}
RoomFor n (steps.Send world closure value) = Unit {0}
RoomFor n steps.Done = Unit {0}

-- a step was read at the front of a text
pub record StepRead (n : ℕ) (old : List ℕ) (s : Step) (new : List ℕ) : Type 0 where
  pub is : old ≡ step_text n s ++ new
  pub good : IsPageStep s
  pub room : RoomFor n s

-- want of memory may end a reading anywhere, a fault where nothing is there
abbrev pub NoWord : LineEnd → List ℕ → List ℕ → Type 0
NoWord Bad word bytes = (r : List ℕ) → bytes ≡ word ++ r → ⊥
NoWord Memory word bytes = Unit {0}

abbrev pub NoStep : LineEnd → ℕ → List ℕ → Type 0
NoStep Bad n bytes = (s : Step) (r : List ℕ) → StepRead n bytes s r → ⊥
NoStep Memory n bytes = Unit {0}

-- a body is spelled here, its constants numbered from here, where so many endings are open with its outermost
pub record BodyHere (level n : ℕ) (bytes : List ℕ) : Type 0 where
  pub body : Body
  pub rest : List ℕ
  pub is : bytes ≡ body_text n body ++ rest
  pub good : EachStep IsPageStep body
  pub deep : depth body + level ≤ 1001
  pub room : n + fills body ≤ 65534

-- a body was read, and its steps were added
pub record BodyRead (level n : ℕ) (old : List ℕ) (before : List Step) (new : List ℕ) (after : List Step) : Type 0 where
  pub body : Body
  pub is : old ≡ body_text n body ++ new
  pub steps : after ≡ before ++ flattened body
  pub good : EachStep IsPageStep body
  pub deep : depth body + level ≤ 1001
  pub room : n + fills body ≤ 65534

abbrev pub NoBody : LineEnd → ℕ → ℕ → List ℕ → Type 0
NoBody Bad level n bytes = BodyHere level n bytes → ⊥
NoBody Memory level n bytes = Unit {0}
