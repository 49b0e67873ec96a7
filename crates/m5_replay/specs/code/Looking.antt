-- What the code's settling says.
use Rattle.std.specs.Prelude.{◌≡◌, ◌+◌, ◌<◌, ◌^◌, Option, Some, ℕ, Bool, true, false}
use Rattle.m5_terms.specs.declared.types.World.{World}
use Rattle.m5_terms.specs.declared.ask.Cause.{Cause}
use Rattle.m5_terms.specs.declared.ask.AskOf.TheVariants as ask
use Rattle.m5_terms.specs.Machine.{goes, asks, wrong}
use Rattle.m5_meaning.specs.Site.{Program, Site}
use Rattle.m5_meaning.specs.Step.{site_next}
use Rattle.m5_script.specs.Scenario.{Scenario}
use Rattle.m5_source_site.specs.ClosedSite.{IsClosedSite, IsClosedNext}
use Rattle.m5_source_site.specs.Waiting.{resumed}
use Rattle.m5_network.specs.FirstMoment.{MayStop}
use Rattle.m5_replay.specs.Settling.{StopsHere, Settles, Exceeds}
use Rattle.m5_replay.specs.declared.limits.Limits.{Limits}
use Rattle.m5_replay.specs.declared.settle.Settled.{Settled}
use Rattle.m5_replay.specs.declared.settle.Settled.TheVariants as settled
use Rattle.m5_replay.specs.declared.settle.Looked.{Looked}
use Rattle.m5_replay.specs.declared.settle.Looked.TheVariants as looked
use Rattle.m5_replay.specs.declared.settle.Settling.{Settling}
use Rattle.m5_replay.specs.declared.settle.Settling.TheVariants as settling

-- the scenario has these numbers
pub record HasLimits (S : Scenario) (l : Limits) : Type 0 where
  pub sessions : S.sessions ≡ l.sessions
  pub steps : S.steps ≡ l.steps
  pub region : S.region ≡ l.region

-- how the settling ends at this state
abbrev pub IsEnd : Program → Scenario → World → Option Cause → Site → Settled → Type 0
IsEnd P S w cause x (settled.Stops c) = (cause ≡ Some c) × MayStop P S w c x
IsEnd P S w cause x (settled.Asks q y) = (StopsHere P S w cause x → ⊥) × (site_next P w x ≡ asks q (resumed P w y.site y.wait))
IsEnd P S w cause x settled.Wrong = (StopsHere P S w cause x → ⊥) × (site_next P w x ≡ wrong)

abbrev pub IsLooked : Program → Scenario → World → Option Cause → Site → Looked → Type 0
IsLooked P S w cause x (looked.Goes t) = (StopsHere P S w cause x → ⊥) × (site_next P w x ≡ goes t)
IsLooked P S w cause x (looked.Ends end) = IsEnd P S w cause x end

-- what waits stays closed with each closed reply
abbrev pub IsClosedEnd : Program → World → Settled → Type 0
IsClosedEnd P w (settled.Asks q y) = IsClosedNext (asks q (resumed P w y.site y.wait))
IsClosedEnd P w _ = Unit {0}

abbrev pub IsClosedLooked : Program → World → Looked → Type 0
IsClosedLooked P w (looked.Goes t) = IsClosedSite t
IsClosedLooked P w (looked.Ends end) = IsClosedEnd P w end

-- a local step counts one, and is made below a limit that no site comes to
abbrev pub IsCounted : Site → Looked → Type 0
IsCounted x (looked.Goes t) = (t.steps ≡ x.steps + 1) × (x.steps < 2 ^ 62)
IsCounted x (looked.Ends end) = Unit {0}

-- the state to which the site settles, with its weight
pub record SettlesTo (P : Program) (S : Scenario) (w : World) (cause : Option Cause) (before : ℕ) (from : Site) (weight : ℕ) (end : Settled) : Type 0 where
  pub at : Site
  pub settles : Settles P S w cause before from at
  pub weighs : weight ≡ at.weight
  pub ends : IsEnd P S w cause at end

-- the settling ended at a look for something new
abbrev pub is_look : Settled → Bool
is_look (settled.Asks ask.Take y) = true
is_look _ = false

abbrev pub IsSettled : Program → Scenario → World → Option Cause → ℕ → Site → Settling → Type 0
IsSettled P S w cause before x (settling.Ends weight end) = SettlesTo P S w cause before x weight end
IsSettled P S w cause before x settling.Beyond = Exceeds P S w cause before x

abbrev pub IsClosedSettling : Program → World → Settling → Type 0
IsClosedSettling P w (settling.Ends weight end) = IsClosedEnd P w end
IsClosedSettling P w settling.Beyond = Unit {0}
