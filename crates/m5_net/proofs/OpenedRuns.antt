-- The sites of a run as it opens stand for the opening.
use Rattle.std.proofs.Common.{◌≡◌, ◌≢◌, ℕ, zero, suc, pos, ◌+◌, ◌<◌, List, [], ◌∷◌, ◌++◌, length, Option, Some, None, false, refl, sym, subst, ◌∙◌, arith, slice_get}
use Rattle.m5_region.specs.declared.value.Value.TheVariants as values
use Rattle.m5_region.specs.Region.{ArrayOf}
use Rattle.m5_terms.specs.declared.types.World.{World}
use Rattle.m5_terms.specs.declared.types.World.TheVariants.{Home, Server, Panel, Any}
use Rattle.m5_terms.specs.PerWorld.{at}
use Rattle.m5_terms.specs.Worlds.{IsSiteWorld}
use Rattle.m5_terms.proofs.SiteWorlds.{has-site, is-real}
use Rattle.m5_script.specs.Scenario.{Scenario}
use Rattle.m5_network.specs.Kinds.{IsAmong}
use Rattle.m5_network.specs.Opening.{opening_board_by}
use Rattle.m5_board.specs.Boards.{board_of}
use Rattle.m5_site.specs.declared.state.Limits.{Limits}
use Rattle.m5_site.specs.Held.{Held}
use Rattle.m5_site.specs.Kind.{limits_of}
use Rattle.m5_site.specs.Making.{begins}
use Rattle.m5_site.specs.Object.{Bundle}
use Rattle.m5_site.specs.Site.{empty, opening}
use Rattle.m5_net.specs.Opening.{IsOpenedLeft, IsOpenedRow, AreRows}
use Rattle.m5_net.specs.Running.{Opens}
use Rattle.m5_net.specs.Sites.{SessionSites, site_in, site_of_session, site_at}
use Rattle.m5_net.specs.Turning.{IsLeft, IsReadyLeft}
use Rattle.m5_net.specs.declared.running.Running.{Running}
use Rattle.m5_net.proofs.Standing.{new_alike, begins_alike}

-- one more row after others
pub one_row : (O : Bundle) (n : Limits) (first : ℕ) (rows : List SessionSites) (r : SessionSites) → AreRows O n first rows → IsOpenedRow O n (first + length rows) r → AreRows O n first (rows ++ r ∷ [])
one_row O n first [] r h k = (subst (λ (s : ℕ). IsOpenedRow O n s r) (omega arith) k, tt)
one_row O n first (q ∷ rows) r h k = (h.0, one_row O n (suc first) rows r h.1 (subst (λ (s : ℕ). IsOpenedRow O n s r) (omega arith) k))

-- no site is stopped as it opens
open_stopped : (O : Bundle) (n : Limits) (w : World) → (opening O n w).stopped ≡ false
open_stopped O n Home = new_alike (ArrayOf (values.Int (pos O.start) ∷ [])) values.Array (empty n) (λ v x. begins v values.Null x) (λ v y. begins_alike v values.Null y)
open_stopped O n Server = refl
open_stopped O n Panel = refl
open_stopped O n Any = refl

opened_left : (O : Bundle) (n : Limits) (s : ℕ) (w : World) (m : Option Held) → w ≢ Any → IsOpenedLeft O n s w m → IsLeft O s w (opening O n w) m
opened_left O n s w None r h = absurd (r h)
opened_left O n s w (Some x) r h = (open_stopped O n w, record { session = h.1.session; world = h.1.world; of = h.1.of; computing = h.1.computing; steps = 0; comes = sym h.0 })

opened_ready : (O : Bundle) (n : Limits) (s : ℕ) (w : World) (m : Option Held) → IsOpenedLeft O n s w m → IsReadyLeft O s w m
opened_ready O n s w None h = tt
opened_ready O n s w (Some x) h = h.1

row_left : (O : Bundle) (n : Limits) (s : ℕ) (w : World) (r : SessionSites) → IsSiteWorld w → IsOpenedRow O n s r → IsLeft O s w (opening O n w) (site_in r w)
row_left O n s Any r i h = absurd (is-real Any i refl)
row_left O n s Home r i h = opened_left O n s Home (at r Home) (is-real Home i) (h Home i)
row_left O n s Server r i h = opened_left O n s Server (at r Server) (is-real Server i) (h Server i)
row_left O n s Panel r i h = opened_left O n s Panel (at r Panel) (is-real Panel i) (h Panel i)

row_ready : (O : Bundle) (n : Limits) (s : ℕ) (w : World) (r : SessionSites) → IsOpenedRow O n s r → IsReadyLeft O s w (site_in r w)
row_ready O n s Any r h = tt
row_ready O n s Home r h = opened_ready O n s Home (at r Home) (h Home (has-site Home (λ e. cc)))
row_ready O n s Server r h = opened_ready O n s Server (at r Server) (h Server (has-site Server (λ e. cc)))
row_ready O n s Panel r h = opened_ready O n s Panel (at r Panel) (h Panel (has-site Panel (λ e. cc)))

rows_left : (O : Bundle) (n : Limits) (first k : ℕ) (w : World) (rows : List SessionSites) → IsSiteWorld w → k < length rows → AreRows O n first rows → IsLeft O (first + k) w (opening O n w) (site_of_session (slice_get rows k) w)
rows_left O n first k w [] i l h = absurd (omega (arith, l))
rows_left O n first zero w (r ∷ rows) i l h = subst (λ (s : ℕ). IsLeft O s w (opening O n w) (site_in r w)) (omega arith) (row_left O n first w r i h.0)
rows_left O n first (suc k) w (r ∷ rows) i l h = subst (λ (s : ℕ). IsLeft O s w (opening O n w) (site_of_session (slice_get rows k) w)) (omega arith) (rows_left O n (suc first) k w rows i (omega (arith, l)) h.1)

rows_ready : (O : Bundle) (n : Limits) (first k : ℕ) (w : World) (rows : List SessionSites) → AreRows O n first rows → IsReadyLeft O (first + k) w (site_of_session (slice_get rows k) w)
rows_ready O n first k w [] h = tt
rows_ready O n first zero w (r ∷ rows) h = subst (λ (s : ℕ). IsReadyLeft O s w (site_in r w)) (omega arith) (row_ready O n first w r h.0)
rows_ready O n first (suc k) w (r ∷ rows) h = subst (λ (s : ℕ). IsReadyLeft O s w (site_of_session (slice_get rows k) w)) (omega arith) (rows_ready O n (suc first) k w rows h.1)

at_left : (O : Bundle) (n : Limits) (s : ℕ) (w : World) (rows : List SessionSites) → IsAmong (length rows) s w → AreRows O n 1 rows → IsLeft O s w (opening O n w) (site_at rows s w)
at_left O n zero w rows i h = let low = i.from_one in absurd (omega (arith, low))
at_left O n (suc k) w rows i h = let last = i.to_last in
    subst (λ (m : ℕ). IsLeft O m w (opening O n w) (site_at rows (suc k) w)) (omega arith) (rows_left O n 1 k w rows i.world (omega (arith, last)) h)

at_ready : (O : Bundle) (n : Limits) (s : ℕ) (w : World) (rows : List SessionSites) → AreRows O n 1 rows → IsReadyLeft O s w (site_at rows s w)
at_ready O n zero w rows h = tt
at_ready O n (suc k) w rows h = subst (λ (m : ℕ). IsReadyLeft O m w (site_at rows (suc k) w)) (omega arith) (rows_ready O n 1 k w rows h)

pub opens : (O : Bundle) (S : Scenario) (n : Limits) (r : Running) → n ≡ limits_of S → AreRows O n 1 r.sites.items → length r.sites.items ≡ S.sessions → board_of r.shared.board ≡ opening_board_by (λ bytes. bytes) S → length r.shared.board.desks ≡ S.sessions → r.shared.entries ≡ [] → Opens O S r
opens O S n r e rows count board desks entries =
    let own : AreRows O (limits_of S) 1 r.sites.items = subst (λ (m : Limits). AreRows O m 1 r.sites.items) e rows in
    record {
      stands = record { board = board; sites = λ s w i. at_left O (limits_of S) s w r.sites.items (subst (λ (m : ℕ). IsAmong m s w) (sym count) i) own };
      ready = record { desks = desks ∙ sym count; sites = λ s w. at_ready O (limits_of S) s w r.sites.items own };
      count = count;
      entries = entries;
    }
