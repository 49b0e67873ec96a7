-- What a site asks for its own world.
use Rattle.std.specs.Prelude.{◌≢◌, ℕ, nat_eq, IsTrue, Option, Some, None}
use Rattle.std.specs.List.{starts_with}
use Rattle.m5_terms.specs.Seal.{seal_bytes}
use Rattle.m5_terms.specs.Worlds.{IsSiteWorld}
use Rattle.m5_terms.specs.declared.types.World.{World}
use Rattle.m5_terms.specs.declared.types.Primitive.{Primitive}
use Rattle.m5_terms.specs.declared.types.Primitive.TheVariants as primitive
use Rattle.m5_terms.specs.declared.ask.AskOf.TheVariants as ask
use Rattle.m5_network.specs.Claim.{IsAtItsWorld}
use Rattle.m5_site.specs.declared.state.Wait.{Wait}
use Rattle.m5_site.specs.declared.state.Wait.TheVariants as waits
use Rattle.m5_site.specs.Object.{is_asked_at}
use Rattle.m5_site.specs.Site.{Query}

-- the primitive that is called
abbrev pub primitive_called : Query → Option Primitive
primitive_called (ask.Say t) = Some primitive.Say
primitive_called (ask.Set e t) = Some primitive.SetText
primitive_called (ask.GetText e) = Some primitive.GetText
primitive_called (ask.On e n) = Some primitive.On
primitive_called (ask.Read k) = Some primitive.Read
primitive_called (ask.Write k t) = Some primitive.Write
primitive_called (ask.Watch k n) = Some primitive.Watch
primitive_called (ask.Show t) = Some primitive.Show
primitive_called _ = None

-- another world that has sites
pub record IsOther (w v : World) : Type 0 where
  pub site : IsSiteWorld v
  pub other : v ≢ w

-- what is sent goes to another world that has sites, and begins with the session's seal
abbrev pub IsSentFrom : ℕ → World → Query → Type 0
IsSentFrom s w (ask.Send v bytes) = IsOther w v × IsTrue (starts_with nat_eq bytes (seal_bytes s))
IsSentFrom s w _ = Unit {0}

-- a site of session s at a world asks for a primitive of the world, for a send, for something new, or for its stop
pub record IsOwnAsk (s : ℕ) (w : World) (q : Query) : Type 0 where
  pub primitive : IsAtItsWorld (primitive_called q) w
  pub sent : IsSentFrom s w q

-- what a site at a world waits for
abbrev pub IsOwnWait : World → Wait → Type 0
IsOwnWait w (waits.Call p argument next) = IsTrue (is_asked_at w p)
IsOwnWait w (waits.Send v thread) = IsOther w v
IsOwnWait w _ = Unit {0}
