-- Runs of a program by a list of places, and when a stop is licensed and a run is finished.
use Rattle.std.specs.Prelude.{◌≢◌, ℕ, ◌+◌, ◌≤◌, true, List, [], Option}
use Rattle.m5_terms.specs.Machine.{Comes}
use Rattle.m5_terms.specs.declared.ask.AskOf.{AskOf}
use Rattle.m5_terms.specs.declared.ask.AnswerOf.{AnswerOf}
use Rattle.m5_terms.specs.declared.types.World.{World}
use Rattle.m5_terms.specs.declared.ask.Cause.{Cause}
use Rattle.m5_terms.specs.declared.ask.Cause.TheVariants.{Spent, Region, Table}
pub use Rattle.m5_meaning.specs.Seals.{has_seal}
use Rattle.m5_meaning.specs.Site.{Program, Site, Item, raw}
use Rattle.m5_meaning.specs.Step.{next_weight, site_next}
use Rattle.m5_meaning.specs.Opening.{opening_site, opening_threads}
use Rattle.m5_script.specs.Scenario.{Scenario}
use Rattle.m5_network.specs.Entries.{Deed}
use Rattle.m5_network.specs.Kinds.{Kind, NetworkOf, IsAmong, ComesToAsk, IsAnswered, IsStoppedBy, MakesDeed, StepOf, RunOf, Rests, IsOver}
pub use Rattle.m5_network.specs.Kinds.{Place, with_site}

abbrev pub Network : Type 0
Network = NetworkOf Site Item

abbrev pub IsSite : Scenario → ℕ → World → Type 0
IsSite S s w = IsAmong S.sessions s w

abbrev pub NextAsk : Program → World → Site → AskOf Item → (AnswerOf Item → Option Site) → Type 0
NextAsk P w from query resume = ComesToAsk (site_next P w) from query resume

abbrev pub Answers : Program → Network → ℕ → World → Deed Item → Network → Type 0
Answers P N s w d M = IsAnswered (site_next P w) N s w d M

-- the steps have reached the budget, or the weight with the step about to be made the region; a full table is no choice
abbrev pub Reached : Program → Scenario → World → Cause → Site → Type 0
Reached P S w Spent x = S.steps ≤ x.steps
Reached P S w Region x = S.region ≤ x.weight + next_weight P x (site_next P w x)
Reached P S w Table x = ⊥

-- after some local steps the site has a thread and the cause's number is reached
pub record IsLicensed (P : Program) (S : Scenario) (w : World) (cause : Cause) (from : Site) : Type 0 where
  pub steps : ℕ
  pub at : Site
  pub comes : Comes (site_next P w) steps from at
  pub has_thread : at.threads ≢ []
  pub reached : Reached P S w cause at

abbrev pub halted : Site → Site
halted x = record x { stopped = true }

-- what licenses the stop of a session's site at a world
abbrev pub Licence : Type 1
Licence = ℕ → World → Cause → Site → Type 0

-- the meaning's sites, with the stops that a licence allows
abbrev pub source_kind : Program → Licence → Kind
source_kind P licensed = record {
  Item = Item;
  State = Site;
  opens = λ s w. opening_site (opening_threads P w);
  next = λ s w. site_next P w;
  licensed = licensed;
  is_stopped = λ x. x.stopped;
  halted = halted;
  raw = raw;
  has_seal = λ s i. has_seal i;
}

-- with the licences of a scenario's numbers
abbrev pub source : Program → Scenario → Kind
source P S = source_kind P (λ s w cause x. IsLicensed P S w cause x)

abbrev pub Stops : Program → Scenario → Network → ℕ → World → Cause → Deed Item → Network → Type 0
Stops P S N s w cause d M = IsStoppedBy (IsLicensed P S w cause) halted N s w cause d M

abbrev pub Makes : Program → Scenario → Network → Place → Deed Item → Network → Option Cause → Type 0
Makes P S = MakesDeed (source P S)

abbrev pub Step : Program → Scenario → Network → Place → Deed Item → Network → Type 0
Step P S = StepOf (source P S) S.sessions

abbrev pub Run : Program → Scenario → Network → List Place → List (Deed Item) → Network → Type 0
Run P S = RunOf (source P S) S.sessions

abbrev pub IsAtRest : Program → Network → ℕ → World → Type 0
IsAtRest P N s w = Rests (site_next P w) N s w

abbrev pub IsFinished : Program → Scenario → Network → Type 0
IsFinished P S = IsOver (source P S) S.sessions
