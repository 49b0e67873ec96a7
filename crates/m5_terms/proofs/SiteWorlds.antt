-- Tests of worlds, and the worlds that have sites.
use Rattle.std.proofs.Common.{◌≡◌, ◌≢◌, Bool, true, false, List, [], ◌∷◌, refl, sym, subst, arith}
use Rattle.std.proofs.lemmas.List.Elements.{All-contains, All-from_recursion}
use Rattle.std.specs.Prelude.{All}
use Rattle.std.specs.List.{AllByRecursion as Each}
use Rattle.m5_terms.specs.TypeExpression.{same_world}
use Rattle.m5_terms.specs.Worlds.{site_worlds, IsSiteWorld}
use Rattle.m5_terms.specs.declared.types.World.{World}
use Rattle.m5_terms.specs.declared.types.World.TheVariants.{Home, Server, Panel, Any}

pub same-true : (v w : World) → same_world v w ≡ true → v ≡ w
same-true Home Home e = refl
same-true Server Server e = refl
same-true Panel Panel e = refl
same-true Any Any e = refl
same-true _ _ e = cc

pub same-self : (w : World) → same_world w w ≡ true
same-self Home = refl
same-self Server = refl
same-self Panel = refl
same-self Any = refl

pub same-false : (v w : World) → same_world v w ≡ false → v ≢ w
same-false v w e = λ q. let r : same_world v v ≡ false = subst (λ x. same_world v x ≡ false) (sym q) e in let s = same-self v in cc

-- what holds in both cases of a test
pub by-world : (P : Bool → Type 0) (v w : World) → (v ≡ w → P true) → (v ≢ w → P false) → P (same_world v w)
by-world P v w f g = by (same_world v w) (same-true v w) (same-false v w)
  where
    by : (k : Bool) → (k ≡ true → v ≡ w) → (k ≡ false → v ≢ w) → P k
    by true e n = f (e refl)
    by false e n = g (n refl)

-- none of them is any
pub none-any : Each (λ (w : World). w ≢ Any) site_worlds
none-any = (λ e. cc, (λ e. cc, (λ e. cc, tt)))

-- no site stands at any
pub is-real : (w : World) → IsSiteWorld w → w ≢ Any
is-real w i = All-contains (λ (v : World). v ≢ Any) site_worlds w (All-from_recursion (λ (v : World). v ≢ Any) site_worlds none-any) i

-- a site stands at each other world
pub has-site : (w : World) → w ≢ Any → IsSiteWorld w
has-site Home n = (0, omega arith, refl)
has-site Server n = (1, omega arith, refl)
has-site Panel n = (2, omega arith, refl)
has-site Any n = absurd (n refl)

-- what holds of each world of the list holds of each world that is not any
pub at-each : (P : World → Type 0) → All P site_worlds → (w : World) → w ≢ Any → P w
at-each P h w n = All-contains P site_worlds w h (has-site w n)

-- what holds of each world that is not any holds of each that has sites
pub each-real : (Q : World → Type 0) → ((w : World) → w ≢ Any → Q w) → Each Q site_worlds
each-real Q f = each site_worlds none-any
  where
    each : (ws : List World) → Each (λ (w : World). w ≢ Any) ws → Each Q ws
    each [] h = tt
    each (w ∷ ws) h = (f w h.0, each ws h.1)
