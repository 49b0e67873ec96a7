-- The laws of one value for each world that has sites.
use Rattle.std.specs.Prelude.{◌≡◌, if◌then◌else◌}
use Rattle.m5_terms.specs.declared.types.World.{World}
use Rattle.m5_terms.specs.declared.per_world.PerWorld.{PerWorld}
use Rattle.m5_terms.specs.TypeExpression.{same_world}
use Rattle.m5_terms.specs.Worlds.{IsSiteWorld}
use Rattle.m5_terms.specs.PerWorld.{at, with_at, each}

-- a change at one world leaves the others
abbrev pub ChangesOne : Type 0 → Type 0
ChangesOne T =
    (v w : World) (x : T) (p : PerWorld T) → IsSiteWorld v → IsSiteWorld w →
    at (with_at w x p) v ≡ (if same_world v w then x else at p v)

-- two that agree at each of the worlds are one
abbrev pub IsEach : Type 0 → Type 0
IsEach T = (p : PerWorld T) (f : World → T) → ((w : World) → IsSiteWorld w → at p w ≡ f w) → p ≡ each f
