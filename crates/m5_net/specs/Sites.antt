-- The sites of all sessions, of which those that have stopped are gone.
use Rattle.std.specs.Prelude.{ℕ, zero, suc, List, Option, Some, None, slice_get}
use Rattle.m5_terms.specs.declared.types.World.{World}
use Rattle.m5_terms.specs.declared.types.World.TheVariants.{Any}
use Rattle.m5_terms.specs.declared.per_world.PerWorld.{PerWorld}
use Rattle.m5_terms.specs.PerWorld.{at}
use Rattle.m5_network.specs.Board.{at_session, at_world}
use Rattle.m5_site.specs.Held.{Held}

-- the sites of one session
abbrev pub SessionSites : Type 0
SessionSites = PerWorld (Option Held)

-- no site is at any
abbrev pub site_in : SessionSites → World → Option Held
site_in r Any = None
site_in r w = at r w

abbrev pub site_of_session : Option SessionSites → World → Option Held
site_of_session None w = None
site_of_session (Some r) w = site_in r w

-- sessions are numbered from 1
abbrev pub site_at : List SessionSites → ℕ → World → Option Held
site_at sites zero w = None
site_at sites (suc s) w = site_of_session (slice_get sites s) w

-- the same sites, but for one
abbrev pub with_site_at : ℕ → World → Option Held → (ℕ → World → Option Held) → ℕ → World → Option Held
with_site_at s w x f = at_session s (at_world w x (f s)) f
