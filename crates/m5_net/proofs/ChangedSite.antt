-- One site of a session is changed.
use Rattle.std.proofs.Common.{◌≡◌, ◌≢◌, ℕ, zero, suc, ◌-◌, ◌<◌, ◌≤◌, ◌==◌, Bool, true, false, List, [], ◌∷◌, length, get_or, Option, Some, refl, sym, ap, subst, ◌∙◌, if◌then◌else◌, arith}
use Rattle.std.specs.Prelude.{slice_get, slice_set}
use Rattle.std.proofs.lemmas.Option.{slice_get-get_or}
use Rattle.std.proofs.Math.Dec.{eqb-suc-zero, eqb-zero-suc, eqb-suc-suc}
use Rattle.m5_terms.specs.declared.types.World.{World}
use Rattle.m5_terms.specs.declared.types.World.TheVariants.{Home, Server, Panel, Any}
use Rattle.m5_terms.specs.PerWorld.{at, with_at}
use Rattle.m5_terms.specs.Worlds.{IsSiteWorld}
use Rattle.m5_terms.proofs.SiteWorlds.{is-real}
use Rattle.m5_site.specs.Held.{Held}
use Rattle.m5_network.specs.Board.{at_session, at_world}
use Rattle.m5_net.specs.Sites.{SessionSites, site_in, site_of_session, site_at, with_site_at}

-- the place that is set, and the others
at-place : (sites : List SessionSites) (k j : ℕ) (r : SessionSites) (w : World) → k < length sites → site_of_session (slice_get (slice_set sites k r) j) w ≡ (if j == k then site_in r w else site_of_session (slice_get sites j) w)
at-place [] k j r w h = absurd (omega (arith, h))
at-place (x ∷ sites) zero zero r w h = refl
at-place (x ∷ sites) zero (suc j) r w h = rw (eqb-suc-zero j) refl
at-place (x ∷ sites) (suc k) zero r w h = rw (eqb-zero-suc k) refl
at-place (x ∷ sites) (suc k) (suc j) r w h = rw (eqb-suc-suc j k) (at-place sites k j r w (omega (arith, h)))

-- the session's sites, and the others
by-session : (b : Bool) (x y : Option Held) (f g : World → Option Held) (v : World) → x ≡ f v → y ≡ g v → (if b then x else y) ≡ (if b then f else g) v
by-session true x y f g v d e = d
by-session false x y f g v d e = e

pointwise : (sites : List SessionSites) (k : ℕ) (r : SessionSites) (f : World → Option Held) → k < length sites → ((v : World) → site_in r v ≡ f v) → (z : ℕ) (v : World) → site_at (slice_set sites k r) z v ≡ at_session (suc k) f (site_at sites) z v
pointwise sites k r f h e zero v = rw (eqb-zero-suc k) refl
pointwise sites k r f h e (suc j) v = rw (eqb-suc-suc j k) (at-place sites k j r v h ∙ by-session (j == k) (site_in r v) (site_of_session (slice_get sites j) v) f (site_at sites (suc j)) v (e v) refl)

in-world : (w v : World) (x : Option Held) (r : SessionSites) → w ≢ Any → site_in (with_at w x r) v ≡ at_world w x (site_in r) v
in-world Home Home x r h = refl
in-world Home Server x r h = refl
in-world Home Panel x r h = refl
in-world Home Any x r h = refl
in-world Server Home x r h = refl
in-world Server Server x r h = refl
in-world Server Panel x r h = refl
in-world Server Any x r h = refl
in-world Panel Home x r h = refl
in-world Panel Server x r h = refl
in-world Panel Panel x r h = refl
in-world Panel Any x r h = refl
in-world Any v x r h = absurd (h refl)

-- at a world that has sites
pub in-site : (r : SessionSites) (w : World) → IsSiteWorld w → site_in r w ≡ at r w
in-site r Home i = refl
in-site r Server i = refl
in-site r Panel i = refl
in-site r Any i = absurd (is-real Any i refl)

pub of-session : (sites : List SessionSites) (s k : ℕ) (r : SessionSites) (w : World) → (1 ≤ s) × (s ≤ length sites) → k ≡ s - 1 → r ≡ get_or sites k r → site_at sites s w ≡ site_in r w
of-session sites s k r w h e g =
    let next : s ≡ suc k = omega (arith, h.0, e) in
    let within : k < length sites = omega (arith, h.0, h.1, e) in
    rw next (ap (λ (o : Option SessionSites). site_of_session o w) (slice_get-get_or sites k r within ∙ ap Some (sym g)))

-- the sites of a session are changed at a world
pub changed : (sites : List SessionSites) (s k : ℕ) (w : World) (x : Option Held) (old new : SessionSites) → (1 ≤ s) × (s ≤ length sites) → IsSiteWorld w → k ≡ s - 1 → old ≡ get_or sites k old → new ≡ with_at w x old → site_at (slice_set sites k new) ≡ with_site_at s w x (site_at sites)
changed sites s k w x old new h n e g c =
    let next : s ≡ suc k = omega (arith, h.0, e) in
    let within : k < length sites = omega (arith, h.0, h.1, e) in
    let row : (v : World) → site_at sites s v ≡ site_in old v = λ v. of-session sites s k old v h e g in
    let f : World → Option Held = at_world w x (site_at sites s) in
    let same : (v : World) → site_in new v ≡ f v = λ v. ap (λ (r : SessionSites). site_in r v) c ∙ (in-world w v x old (is-real w n) ∙ sym (ap (λ (q : World → Option Held). at_world w x q v) (λ i. λ u. row u i))) in
    subst (λ (z : ℕ). site_at (slice_set sites k new) ≡ at_session z f (site_at sites)) (sym next) (λ i. λ z. λ v. pointwise sites k new f within same z v i)
