-- Values for each world.
use Rattle.std.proofs.Common.{◌≡◌, ◌≢◌, refl}
use Rattle.m5_terms.specs.declared.types.World.TheVariants.{Home, Server, Panel, Any}
use Rattle.m5_terms.specs.declared.types.World.{World}
use Rattle.m5_terms.specs.declared.per_world.PerWorld.{PerWorld}
use Rattle.m5_terms.specs.PerWorld.{at, with_at, each}
use Rattle.m5_terms.specs.PerWorldLaws.{ChangesOne, IsEach}
use Rattle.m5_terms.proofs.SiteWorlds.{is-real, has-site}

pub changes-one : (T : Type 0) → ChangesOne T
changes-one T Any w x p h k = absurd (is-real Any h refl)
changes-one T v Any x p h k = absurd (is-real Any k refl)
changes-one T _ _ x p h k = refl

pub is-each : (T : Type 0) → IsEach T
is-each T p f h = λ i. record {
  home = h Home (has-site Home (λ e. cc)) i;
  server = h Server (has-site Server (λ e. cc)) i;
  panel = h Panel (has-site Panel (λ e. cc)) i;
}

-- what holds of the new value and of the old one holds after a change
pub either-at : {T : Type 0} (Q : T → Type 0) (p : PerWorld T) (w : World) (x : T) (v : World) → Q x → Q (at p v) → Q (at (with_at w x p) v)
either-at Q p Home x Home h k = h
either-at Q p Home x Any h k = h
either-at Q p Home x _ h k = k
either-at Q p Server x Server h k = h
either-at Q p Server x _ h k = k
either-at Q p Panel x Panel h k = h
either-at Q p Panel x _ h k = k
either-at Q p Any x v h k = k

-- the new value is only asked about at its own world
pub own-at : {T : Type 0} (Q : T → Type 0) (p : PerWorld T) (w : World) (x : T) (v : World) → v ≢ Any → (v ≡ w → Q x) → Q (at p v) → Q (at (with_at w x p) v)
own-at Q p Any x v n h k = k
own-at Q p Home x Any n h k = absurd (n refl)
own-at Q p Home x Home n h k = h refl
own-at Q p Home x _ n h k = k
own-at Q p Server x Server n h k = h refl
own-at Q p Server x _ n h k = k
own-at Q p Panel x Panel n h k = h refl
own-at Q p Panel x _ n h k = k

-- what a function gives at each world stands at each
pub each-at : {T : Type 0} (Q : T → Type 0) (f : World → T) (v : World) → ((w : World) → Q (f w)) → Q (at (each f) v)
each-at Q f Any h = h Home
each-at Q f w h = h w
