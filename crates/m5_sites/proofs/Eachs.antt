-- One value for each world, made by a closure.
use Rattle.std.proofs.Common.{◌≡◌, Result, Ok, Err, IfOk}
use Rattle.m5_terms.specs.declared.types.World.{World}
use Rattle.m5_terms.specs.declared.per_world.PerWorld.{PerWorld}
use Rattle.m5_terms.specs.PerWorld.{at, each}
use Rattle.m5_terms.specs.Worlds.{IsSiteWorld}
use Rattle.m5_terms.proofs.PerWorlds.{is-each}

-- what is at each world as a function says is the function's
pub each-by : {T E : Type 0} (f : World → T) (Q : PerWorld T → Type 0) (r : Result (PerWorld T) E) → ((p : PerWorld T) → Q p → (w : World) → IsSiteWorld w → at p w ≡ f w) → IfOk r Q → IfOk r (λ p. p ≡ each f)
each-by {T} f Q (Ok p) g h = is-each T p f (g p h)
each-by f Q (Err e) g h = tt
