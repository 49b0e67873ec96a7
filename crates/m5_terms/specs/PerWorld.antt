-- One value for each world that has sites, as a function from worlds.
use Rattle.m5_terms.specs.declared.types.World.{World}
use Rattle.m5_terms.specs.declared.types.World.TheVariants.{Home, Server, Panel, Any}
use Rattle.m5_terms.specs.declared.per_world.PerWorld.{PerWorld}

-- Any has no sites: there the first world's value is read, and a change is lost
abbrev pub at : {T : Type 0} → PerWorld T → World → T
at p Home = p.home
at p Server = p.server
at p Panel = p.panel
at p Any = p.home

abbrev pub with_at : {T : Type 0} → World → T → PerWorld T → PerWorld T
with_at Home x p = record p { home = x }
with_at Server x p = record p { server = x }
with_at Panel x p = record p { panel = x }
with_at Any x p = p

-- the value of a function at each of the worlds
abbrev pub each : {T : Type 0} → (World → T) → PerWorld T
each f = record { home = f Home; server = f Server; panel = f Panel }
