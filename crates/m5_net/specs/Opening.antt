-- The sites that a run opens with.
use Rattle.std.specs.Prelude.{◌≡◌, ℕ, suc, List, [], ◌∷◌, Option, Some, None}
use Rattle.m5_terms.specs.declared.types.World.{World}
use Rattle.m5_terms.specs.declared.types.World.TheVariants.{Any}
use Rattle.m5_terms.specs.PerWorld.{at}
use Rattle.m5_terms.specs.Worlds.{IsSiteWorld}
use Rattle.m5_site.specs.declared.state.Limits.{Limits}
use Rattle.m5_site.specs.Held.{Held}
use Rattle.m5_site.specs.Object.{Bundle}
use Rattle.m5_site.specs.Site.{opening}
use Rattle.m5_net.specs.Sites.{SessionSites}
use Rattle.m5_net.specs.Turning.{IsReadySite}

-- no site is at any
abbrev pub IsOpenedLeft : Bundle → Limits → ℕ → World → Option Held → Type 0
IsOpenedLeft O n s w None = w ≡ Any
IsOpenedLeft O n s w (Some x) = (x.state ≡ opening O n w) × IsReadySite O s w x

-- the sites of a session
abbrev pub IsOpenedRow : Bundle → Limits → ℕ → SessionSites → Type 0
IsOpenedRow O n s r = (w : World) → IsSiteWorld w → IsOpenedLeft O n s w (at r w)

-- those of sessions one after another, from this one on
abbrev pub AreRows : Bundle → Limits → ℕ → List SessionSites → Type 0
AreRows O n first [] = Unit {0}
AreRows O n first (r ∷ rows) = IsOpenedRow O n first r × AreRows O n (suc first) rows
