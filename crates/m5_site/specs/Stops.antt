-- When a site of an object is to be stopped, and what is claimed of a call that computes.
use Rattle.std.specs.Prelude.{◌≡◌, ◌≢◌, ℕ}
use Rattle.m5_terms.specs.Machine.{Comes}
use Rattle.m5_terms.specs.declared.types.World.{World}
use Rattle.m5_terms.specs.declared.ask.Cause.{Cause}
use Rattle.m5_terms.specs.declared.ask.Cause.TheVariants.{Table}
use Rattle.m5_site.specs.declared.state.State.{State}
use Rattle.m5_site.specs.declared.state.Wait.{Wait}
use Rattle.m5_site.specs.declared.state.Wait.TheVariants as waits
use Rattle.m5_site.specs.Object.{Bundle}
use Rattle.m5_site.specs.Site.{moved, site_next}

-- local steps lead to what the site waits for, and to how it stands then
pub record ComesTo (O : Bundle) (s : ℕ) (w : World) (from : State) (wait : Wait) (to : State) : Type 0 where
  pub steps : ℕ
  pub at : State
  pub comes : Comes (site_next O s w) steps from at
  pub waiting : moved O w at ≡ (wait, to)
  pub something : wait ≢ waits.Nothing

-- a run may stop a site that comes to where it has no steps or no room left; a full table is no choice
pub record IsDue (O : Bundle) (s : ℕ) (w : World) (cause : Cause) (from : State) : Type 0 where
  pub to : State
  pub comes : ComesTo O s w from (waits.Stop cause) to
  pub chosen : cause ≢ Table
