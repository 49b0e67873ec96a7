-- The first moment at which a site may be stopped.
use Rattle.std.specs.Prelude.{◌≡◌, ◌≢◌, ◌⊎◌, ℕ, ◌<◌, [], Option}
use Rattle.m5_terms.specs.declared.types.World.{World}
use Rattle.m5_terms.specs.declared.ask.Cause.{Cause}
use Rattle.m5_terms.specs.declared.ask.Cause.TheVariants.{Spent, Region}
use Rattle.m5_terms.specs.Machine.{asks, wrong, Comes}
use Rattle.m5_terms.specs.declared.ask.AskOf.{AskOf}
use Rattle.m5_terms.specs.declared.ask.AskOf.TheVariants as ask
use Rattle.m5_terms.specs.declared.ask.AnswerOf.{AnswerOf}
use Rattle.m5_meaning.specs.Site.{Program, Site, Item}
use Rattle.m5_meaning.specs.Step.{site_next}
use Rattle.m5_script.specs.Scenario.{Scenario}
use Rattle.m5_network.specs.Run.{Reached}

-- here a stop is licensed: the site has a thread, and the cause's number is reached
pub record MayStop (P : Program) (S : Scenario) (w : World) (cause : Cause) (x : Site) : Type 0 where
  pub has_thread : x.threads ≢ []
  pub reached : Reached P S w cause x

abbrev pub IsFree : Program → Scenario → World → Site → Type 0
IsFree P S w x = (cause : Cause) → MayStop P S w cause x → ⊥

-- so many local steps lead from one state to the other, and no stop is licensed before
pub record ComesFree (P : Program) (S : Scenario) (w : World) (n : ℕ) (from to : Site) : Type 0 where
  pub comes : Comes (site_next P w) n from to
  pub free : (m : ℕ) (x : Site) → m < n → Comes (site_next P w) m from x → IsFree P S w x

-- the first moment at which a stop is licensed; the steps are looked at before the region
pub record StopsFirst (P : Program) (S : Scenario) (w : World) (cause : Cause) (from : Site) : Type 0 where
  pub steps : ℕ
  pub at : Site
  pub comes : ComesFree P S w steps from at
  pub stop : MayStop P S w cause at
  pub order : cause ≡ Region → MayStop P S w Spent at → ⊥

-- the next ask, up to which no stop is licensed
pub record AsksFree (P : Program) (S : Scenario) (w : World) (from : Site) (query : AskOf Item) (resume : AnswerOf Item → Option Site) : Type 0 where
  pub steps : ℕ
  pub waiting : Site
  pub comes : ComesFree P S w steps from waiting
  pub free : IsFree P S w waiting
  pub asking : site_next P w waiting ≡ asks query resume

-- the meaning goes wrong before a stop is licensed
pub record GoesWrong (P : Program) (S : Scenario) (w : World) (from : Site) : Type 0 where
  pub steps : ℕ
  pub at : Site
  pub comes : ComesFree P S w steps from at
  pub free : IsFree P S w at
  pub stuck : site_next P w at ≡ wrong

-- the first moment is a stop for this cause, or this ask
abbrev pub ByFirstMoment : Program → Scenario → World → Site → AskOf Item → Type 0
ByFirstMoment P S w x q = ((cause : Cause) × (q ≡ ask.Stop cause) × StopsFirst P S w cause x) ⊎ ((resume : AnswerOf Item → Option Site) × AsksFree P S w x q resume)
