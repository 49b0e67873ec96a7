-- When a line of a trace fits, by the run that the places before it determine.
use Rattle.std.specs.Prelude.{◌≡◌, ◌⊎◌, ℕ, ◌+◌, ◌-◌, true, false, List, [], ◌∷◌, ◌++◌, map, sum_by, codes, Some, None}
use Rattle.m5_terms.specs.declared.ask.Entry.{Entry}
use Rattle.m5_meaning.specs.Site.{Program, Site, Item}
use Rattle.m5_script.specs.Scenario.{Scenario}
use Rattle.m5_script.specs.Trace.{line_of, last_words}
use Rattle.m5_script.specs.declared.items.SiteName.{SiteName}
use Rattle.m5_network.specs.Claim.{has_seal, stop_count, ending}
use Rattle.m5_network.specs.Entries.{Deed, entry_of}
use Rattle.m5_network.specs.Run.{Network, Place, IsSite, Step, IsFinished}
use Rattle.m5_replay.specs.Lines.{place_named}
use Rattle.m5_replay.specs.Settling.{Settles, Exceeds}

-- the line of a deed
abbrev pub deed_line : Deed Item → List ℕ
deed_line d = line_of (entry_of has_seal d)

-- what came before, the settling, and then the ask or take with its answer; a stop leaves the site as it was
abbrev pub weight_after : ℕ → Site → Site → Site → ℕ
weight_after before from settled after = before + (settled.weight - from.weight) + (after.weight - settled.weight)

-- the line fits after N: its place can be made, within the budget, and the new entry's text is the line
pub record Fits (P : Program) (S : Scenario) (N : Network) (before : ℕ) (line : List ℕ) (d : Deed Item) (M : Network) (after : ℕ) : Type 0 where
  pub place : Place
  pub named : place_named line ≡ Some place
  pub settled : Site
  pub settles : Settles P S place.world place.cause before (N.site place.session place.world) settled
  pub step : Step P S N place d M
  pub text : line ≡ deed_line d
  pub weight : after ≡ weight_after before (N.site place.session place.world) settled (M.site place.session place.world)

-- the lines fit one after the other, make these deeds, and lead to M, all that was run weighing so much
abbrev pub Passes : Program → Scenario → Network → ℕ → List (List ℕ) → List (Deed Item) → Network → ℕ → Type 0
Passes P S N before [] [] M after = (M ≡ N) × (after ≡ before)
Passes P S N before (line ∷ more) (d ∷ ds) M after = (L : Network) × (mid : ℕ) × Fits P S N before line d L mid × Passes P S L mid more ds M after
Passes P S N before [] (d ∷ ds) M after = ⊥
Passes P S N before (line ∷ more) [] M after = ⊥

-- the site of the place is there and not stopped, so that its line needs running
pub record NeedsRunning (S : Scenario) (N : Network) (p : Place) : Type 0 where
  pub site : IsSite S p.session p.world
  pub runs : (N.site p.session p.world).stopped ≡ false

-- the line names a place and does not fit; where it needs running, that is within the budget
pub record Misfits (P : Program) (S : Scenario) (N : Network) (before : ℕ) (line : List ℕ) (p : Place) : Type 0 where
  pub differs : (d : Deed Item) (M : Network) → Step P S N p d M → line ≡ deed_line d → ⊥
  pub within : NeedsRunning S N p → (settled : Site) × Settles P S p.world p.cause before (N.site p.session p.world) settled

-- the line's settling is beyond the budget
pub record Overruns (P : Program) (S : Scenario) (N : Network) (before : ℕ) (p : Place) : Type 0 where
  pub needs : NeedsRunning S N p
  pub exceeds : Exceeds P S p.world p.cause before (N.site p.session p.world)

-- for a last line that names no place, a site that is not stopped runs to its next ask
pub record RunsToAsk (P : Program) (S : Scenario) (N : Network) (before : ℕ) (x : SiteName) (after : ℕ) : Type 0 where
  pub runs : (N.site x.session x.world).stopped ≡ false
  pub settled : Site
  pub settles : Settles P S x.world None before (N.site x.session x.world) settled
  pub weight : after ≡ before + (settled.weight - (N.site x.session x.world).weight)

abbrev pub SettlesSite : Program → Scenario → Network → ℕ → SiteName → ℕ → Type 0
SettlesSite P S N before x after = (((N.site x.session x.world).stopped ≡ true) × (after ≡ before)) ⊎ RunsToAsk P S N before x after

-- all these sites do so in their order, within the budget
abbrev pub SettlesAll : Program → Scenario → Network → ℕ → List SiteName → ℕ → Type 0
SettlesAll P S N before [] after = after ≡ before
SettlesAll P S N before (x ∷ xs) after = (mid : ℕ) × SettlesSite P S N before x mid × SettlesAll P S N mid xs after

-- one of them comes to a moment beyond the budget
pub record ExceedsAt (P : Program) (S : Scenario) (N : Network) (before : ℕ) (x : SiteName) : Type 0 where
  pub runs : (N.site x.session x.world).stopped ≡ false
  pub exceeds : Exceeds P S x.world None before (N.site x.session x.world)

pub record ExceedsAmong (P : Program) (S : Scenario) (N : Network) (before : ℕ) (xs : List SiteName) : Type 0 where
  pub passed : List SiteName
  pub site : SiteName
  pub others : List SiteName
  pub all : xs ≡ passed ++ site ∷ others
  pub mid : ℕ
  pub settles : SettlesAll P S N before passed mid
  pub exceeds : ExceedsAt P S N mid site

-- the last line that is due after these deeds
abbrev pub due_line : List (Deed Item) → List ℕ
due_line ds = last_words (ending (sum_by (λ (e : Entry). stop_count e.act) (map (entry_of has_seal) ds))) ++ codes "\n"

-- a last line that names no place fits where the run is finished and the line is the one due
pub record IsLast (P : Program) (S : Scenario) (N : Network) (ds : List (Deed Item)) (line : List ℕ) : Type 0 where
  pub finished : IsFinished P S N
  pub due : line ≡ due_line ds
