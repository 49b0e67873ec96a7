-- What the code's moments say.
use Rattle.std.specs.Prelude.{◌≡◌, ◌+◌, ◌<◌}
use Rattle.m5_terms.specs.declared.types.World.{World}
use Rattle.m5_terms.specs.declared.ask.Cause.TheVariants.{Spent, Region}
use Rattle.m5_terms.specs.Machine.{goes, asks, wrong}
use Rattle.m5_meaning.specs.Site.{Program, Site}
use Rattle.m5_meaning.specs.Step.{site_next}
use Rattle.m5_script.specs.Scenario.{Scenario}
use Rattle.m5_source_site.specs.ClosedSite.{IsClosedSite, IsClosedNext}
use Rattle.m5_source_site.specs.Waiting.{resumed}
use Rattle.m5_reference.specs.declared.limits.Limits.{Limits}
use Rattle.m5_reference.specs.declared.moment.Moment.{Moment}
use Rattle.m5_reference.specs.declared.moment.Moment.TheVariants as moment
use Rattle.m5_reference.specs.declared.moment.StepOrMoment.{StepOrMoment}
use Rattle.m5_reference.specs.declared.moment.StepOrMoment.TheVariants as step_or_moment
use Rattle.m5_network.specs.FirstMoment.{MayStop, IsFree, StopsFirst, AsksFree, GoesWrong}

-- the scenario has these numbers
pub record HasLimits (S : Scenario) (l : Limits) : Type 0 where
  pub steps : S.steps ≡ l.steps
  pub region : S.region ≡ l.region

-- what is seen of the state itself
abbrev pub IsMomentAt : Program → Scenario → World → Site → Moment → Type 0
IsMomentAt P S w x (moment.Stops cause) = MayStop P S w cause x × (cause ≡ Region → MayStop P S w Spent x → ⊥)
IsMomentAt P S w x (moment.Asks q y) = IsFree P S w x × (site_next P w x ≡ asks q (resumed P w y.site y.wait))
IsMomentAt P S w x moment.Wrong = IsFree P S w x × (site_next P w x ≡ wrong)

abbrev pub IsStepOrMomentAt : Program → Scenario → World → Site → StepOrMoment → Type 0
IsStepOrMomentAt P S w x (step_or_moment.Step t) = IsFree P S w x × (site_next P w x ≡ goes t)
IsStepOrMomentAt P S w x (step_or_moment.Moment m) = IsMomentAt P S w x m

-- the moment to which the site comes by local steps
abbrev pub IsMoment : Program → Scenario → World → Site → Moment → Type 0
IsMoment P S w x (moment.Stops cause) = StopsFirst P S w cause x
IsMoment P S w x (moment.Asks q y) = AsksFree P S w x q (resumed P w y.site y.wait)
IsMoment P S w x moment.Wrong = GoesWrong P S w x

-- what waits stays closed with each closed reply
abbrev pub IsClosedMoment : Program → World → Moment → Type 0
IsClosedMoment P w (moment.Asks q y) = IsClosedNext (asks q (resumed P w y.site y.wait))
IsClosedMoment P w _ = Unit {0}

abbrev pub IsClosedStepOrMoment : Program → World → StepOrMoment → Type 0
IsClosedStepOrMoment P w (step_or_moment.Step t) = IsClosedSite t
IsClosedStepOrMoment P w (step_or_moment.Moment m) = IsClosedMoment P w m

-- a local step counts one, and is made within the limit alone
abbrev pub IsCountedStep : Site → Limits → StepOrMoment → Type 0
IsCountedStep x l (step_or_moment.Step t) = (t.steps ≡ x.steps + 1) × (x.steps < l.steps)
IsCountedStep x l (step_or_moment.Moment m) = Unit {0}
