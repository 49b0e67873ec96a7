-- A site as its callers see it.
use Rattle.std.specs.Prelude.{ℕ}
use Rattle.m5_terms.specs.declared.types.World.{World}
use Rattle.m5_terms.specs.Worlds.{IsSiteWorld}
use Rattle.m5_site.specs.declared.state.State.{State}
use Rattle.m5_site.specs.declared.state.Wait.{Wait}
use Rattle.m5_site.specs.Object.{Bundle, code_of}
use Rattle.m5_site.specs.Own.{IsOwnWait}
use Rattle.m5_site.specs.code.Sound.{IsSoundState, WaitFits}

-- the session and the world for which it was made, what it has, and what it waits for
pub record Held : Type 0 where
  pub session : ℕ
  pub world : World
  pub state : State
  pub wait : Wait

-- a site of the object: what it holds refers to what is there, its threads and handlers enter the
-- object's blocks, and it asks for its own world alone
pub record IsSiteOf (O : Bundle) (x : Held) : Type 0 where
  pub world : IsSiteWorld x.world
  pub sound : IsSoundState (code_of O x.world) x.state
  pub fits : WaitFits O (code_of O x.world) x.state x.wait
  pub own : IsOwnWait x.world x.wait
