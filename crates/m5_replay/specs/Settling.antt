-- Settling: the local steps of a site to its next ask, or to the first moment at which a stop's condition holds; and its budget.
use Rattle.std.specs.Prelude.{◌≡◌, ◌⊎◌, ℕ, ◌+◌, ◌-◌, ◌<◌, ◌≤◌, Option, Some, None, IsTrue}
use Rattle.m5_terms.specs.Machine.{goes, Comes}
use Rattle.m5_terms.specs.declared.types.World.{World}
use Rattle.m5_terms.specs.declared.ask.Cause.{Cause}
use Rattle.m5_meaning.specs.Site.{Program, Site}
use Rattle.m5_meaning.specs.Step.{site_next}
use Rattle.m5_script.specs.Scenario.{Scenario}
use Rattle.m5_network.specs.FirstMoment.{MayStop}
use Rattle.m5_replay.specs.Depth.{is_shallow_site}

-- the budget of the weight of all local steps, asks and takes so far
abbrev pub most_weight : ℕ
most_weight = 16000000

-- the condition of the cause that the line names holds here
abbrev pub StopsHere : Program → Scenario → World → Option Cause → Site → Type 0
StopsHere P S w None x = ⊥
StopsHere P S w (Some cause) x = MayStop P S w cause x

-- so many local steps of the settling lead from one state to the other: the condition does not hold before
pub record Settling (P : Program) (S : Scenario) (w : World) (cause : Option Cause) (n : ℕ) (from to : Site) : Type 0 where
  pub comes : Comes (site_next P w) n from to
  pub unstopped : (m : ℕ) (x : Site) → m < n → Comes (site_next P w) m from x → StopsHere P S w cause x → ⊥

-- the settling ends here: at the condition, or where the site makes no local step
abbrev pub EndsHere : Program → Scenario → World → Option Cause → Site → Type 0
EndsHere P S w cause x = StopsHere P S w cause x ⊎ ((t : Site) → site_next P w x ≡ goes t → ⊥)

-- what came before the settling and what it weighs so far is within the budget, and so is the depth of the site
pub record IsWithin (before : ℕ) (from at : Site) : Type 0 where
  pub weight : before + (at.weight - from.weight) ≤ most_weight
  pub depth : IsTrue (is_shallow_site at)

-- the site settles, each moment of it being within the budget, the first and the last too
pub record Settles (P : Program) (S : Scenario) (w : World) (cause : Option Cause) (before : ℕ) (from to : Site) : Type 0 where
  pub steps : ℕ
  pub settling : Settling P S w cause steps from to
  pub ends : EndsHere P S w cause to
  pub within : (m : ℕ) (x : Site) → m ≤ steps → Comes (site_next P w) m from x → IsWithin before from x

-- some moment of the settling is beyond the budget
pub record Exceeds (P : Program) (S : Scenario) (w : World) (cause : Option Cause) (before : ℕ) (from : Site) : Type 0 where
  pub steps : ℕ
  pub at : Site
  pub settling : Settling P S w cause steps from at
  pub beyond : IsWithin before from at → ⊥
