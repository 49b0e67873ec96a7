-- The verdict on a trace.
use Rattle.std.specs.Prelude.{◌≡◌, ◌⊎◌, ℕ, ◌+◌, List, [], ◌∷◌, ◌++◌, length, Option, Some, None}
use Rattle.m5_meaning.specs.Site.{Program, Item}
use Rattle.m5_script.specs.Scenario.{Scenario}
use Rattle.m5_network.specs.Entries.{Deed}
use Rattle.m5_network.specs.Opening.{opening}
use Rattle.m5_network.specs.Plain.{sites_of}
use Rattle.m5_network.specs.Run.{Network, Place}
use Rattle.m5_replay.specs.Lines.{lines, place_named}
use Rattle.m5_replay.specs.Fitting.{Passes, Misfits, Overruns, SettlesAll, ExceedsAmong, IsLast}
use Rattle.m5_replay.specs.declared.verdict.Verdict.{Verdict}
use Rattle.m5_replay.specs.declared.verdict.Verdict.TheVariants.{Yes, No, Spent}

-- the first lines of the trace, which fit, and where they lead
pub record Passed (P : Program) (S : Scenario) (trace : List ℕ) (rest : List (List ℕ)) : Type 0 where
  pub first : List (List ℕ)
  pub all : lines trace ≡ first ++ rest
  pub deeds : List (Deed Item)
  pub at : Network
  pub weight : ℕ
  pub passes : Passes P S (opening P S) 0 first deeds at weight

-- lines are counted from 1
abbrev pub line_number : {P : Program} {S : Scenario} {trace : List ℕ} {rest : List (List ℕ)} → Passed P S trace rest → ℕ
line_number p = length p.first + 1

-- a line with what follows it does not fit, and its settling is within the budget
abbrev pub FitsNot : Program → Scenario → Network → ℕ → List (Deed Item) → List ℕ → List (List ℕ) → Option Place → Type 0
FitsNot P S N before ds line more (Some p) = Misfits P S N before line p
FitsNot P S N before ds line [] None = ((after : ℕ) × SettlesAll P S N before (sites_of S.sessions) after) × (IsLast P S N ds line → ⊥)
FitsNot P S N before ds line (next ∷ more) None = Unit {0}

-- its settling is beyond the budget
abbrev pub IsBeyond : Program → Scenario → Network → ℕ → List (List ℕ) → Option Place → Type 0
IsBeyond P S N before more (Some p) = Overruns P S N before p
IsBeyond P S N before [] None = ExceedsAmong P S N before (sites_of S.sessions)
IsBeyond P S N before (next ∷ more) None = ⊥

-- all lines fit: the last names no place, and is the one due where the run is finished
pub record IsYes (P : Program) (S : Scenario) (trace : List ℕ) : Type 0 where
  pub line : List ℕ
  pub before : Passed P S trace (line ∷ [])
  pub unnamed : place_named line ≡ None
  pub after : ℕ
  pub settles : SettlesAll P S before.at before.weight (sites_of S.sessions) after
  pub last : IsLast P S before.at before.deeds line

-- all lines before this one fit, and it does not, its settling being within the budget
pub record IsNoAt (P : Program) (S : Scenario) (trace : List ℕ) (number : ℕ) : Type 0 where
  pub line : List ℕ
  pub more : List (List ℕ)
  pub before : Passed P S trace (line ∷ more)
  pub counted : number ≡ line_number before
  pub misfit : FitsNot P S before.at before.weight before.deeds line more (place_named line)

-- all lines fit, and the last one is missing
pub record IsCutAt (P : Program) (S : Scenario) (trace : List ℕ) (number : ℕ) : Type 0 where
  pub before : Passed P S trace []
  pub counted : number ≡ line_number before

-- all lines before this one fit, and its settling is beyond the budget
pub record IsSpentAt (P : Program) (S : Scenario) (trace : List ℕ) (number : ℕ) : Type 0 where
  pub line : List ℕ
  pub more : List (List ℕ)
  pub before : Passed P S trace (line ∷ more)
  pub counted : number ≡ line_number before
  pub beyond : IsBeyond P S before.at before.weight more (place_named line)

abbrev pub IsVerdict : Program → Scenario → List ℕ → Verdict → Type 0
IsVerdict P S trace Yes = IsYes P S trace
IsVerdict P S trace (No number) = IsNoAt P S trace number ⊎ IsCutAt P S trace number
IsVerdict P S trace (Spent number) = IsSpentAt P S trace number
