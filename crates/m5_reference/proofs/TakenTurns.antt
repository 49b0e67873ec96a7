-- What one turn makes of a run on its way.
use Rattle.std.proofs.Common.{◌≡◌, ℕ, ◌++◌, true, [], ◌∷◌, length, Option, Some, None, inr, refl, sym, ap, subst, ◌∙◌, append-nil}
use Rattle.m5_terms.specs.declared.types.World.{World}
use Rattle.m5_terms.specs.declared.ask.Act.{Act}
use Rattle.m5_terms.specs.declared.ask.Entry.{Entry}
use Rattle.m5_meaning.specs.Site.{Program, Site}
use Rattle.m5_script.specs.Scenario.{Scenario}
use Rattle.m5_script.specs.declared.items.SiteName.{SiteName}
use Rattle.m5_network.specs.Run.{Network, IsSite, with_site}
use Rattle.m5_board.specs.Boards.{board_of}
use Rattle.m5_reference.specs.Ahead.{IsAhead}
use Rattle.m5_sites.specs.ClosedSites.{IsClosedBoard, IsClosedLeft}
use Rattle.m5_reference.specs.Running.{StandsFor, IsReady, TakesTurn}
use Rattle.m5_sites.specs.Sites.{site_at, with_site_at}
use Rattle.m5_reference.specs.Turning.{MakesDeed, FindsNothing}
use Rattle.m5_reference.specs.declared.running.Running.{Running}
use Rattle.m5_network.proofs.Places.{at-place}
use Rattle.m5_sites.proofs.SiteMaps.{all-at, stays-at, put-back}

abbrev Sites : Type 0
Sites = ℕ → World → Option Site

-- a site that was gone stays gone
stays-gone : (s : ℕ) (w : World) (old new : Sites) → None ≡ old s w → new ≡ with_site_at s w None old → new ≡ old
stays-gone s w old new e h = h ∙ (λ i. λ z. λ v. stays-at s w None old e z v i)

pub skips : (P : Program) (S : Scenario) (N : Network) (x : SiteName) (old new : Running) → StandsFor P S old N → IsSite S x.session x.world →
    None ≡ site_at old.sites.items x.session x.world → site_at new.sites.items ≡ with_site_at x.session x.world None (site_at old.sites.items) → new.board ≡ old.board → new.entries ≡ old.entries → TakesTurn P S N x old new
skips P S N x old new h i none rows board entries =
    let gone : (N.site x.session x.world).stopped ≡ true = subst (IsAhead P S x.world (N.site x.session x.world)) (sym none) (h.sites x.session x.world i) in
    let same : site_at new.sites.items ≡ site_at old.sites.items = stays-gone x.session x.world (site_at old.sites.items) (site_at new.sites.items) none rows in
    record {
      deeds = [];
      after = N;
      turn = ((refl, inr gone), inr gone);
      made = record {
        stands = record { board = ap board_of board ∙ h.board; sites = λ z v j. subst (λ (f : Sites). IsAhead P S v (N.site z v) (f z v)) (sym same) (h.sites z v j) };
        entries = entries ∙ sym (append-nil old.entries);
      };
    }

pub acts : (P : Program) (S : Scenario) (N : Network) (x : SiteName) (old mid new : Running) (left : Option Site) (shown : Act) → StandsFor P S old N → IsSite S x.session x.world →
    site_at mid.sites.items ≡ with_site_at x.session x.world None (site_at old.sites.items) → site_at new.sites.items ≡ with_site_at x.session x.world left (site_at mid.sites.items) →
    MakesDeed P S N x.session x.world new.board left shown → new.entries ≡ old.entries ++ record { session = x.session; world = x.world; act = shown } ∷ [] → TakesTurn P S N x old new
acts P S N x old mid new left shown h i taken put m entries =
    let rows : site_at new.sites.items ≡ with_site_at x.session x.world left (site_at old.sites.items) = put-back x.session x.world None left (site_at old.sites.items) (site_at mid.sites.items) (site_at new.sites.items) taken put in
    let Ahead : ℕ → World → Site → Option Site → Type 0 = λ z v a b. IsSite S z v → IsAhead P S v a b in
    let sites : (z : ℕ) (v : World) → Ahead z v ((with_site x.session x.world m.site (board_of new.board) N).site z v) (with_site_at x.session x.world left (site_at old.sites.items) z v) =
    at-place Ahead x.session x.world m.site left N.site (site_at old.sites.items) (λ j. m.ahead) h.sites in
    record {
      deeds = m.deed ∷ [];
      after = with_site x.session x.world m.site (board_of new.board) N;
      turn = m.turn;
      made = record {
        stands = record { board = refl; sites = λ z v. subst (λ (f : Sites). Ahead z v ((with_site x.session x.world m.site (board_of new.board) N).site z v) (f z v)) (sym rows) (sites z v) };
        entries = entries ∙ ap (λ (e : Entry). old.entries ++ e ∷ []) (sym m.entry);
      };
    }

pub rests : (P : Program) (S : Scenario) (N : Network) (x : SiteName) (old mid new : Running) (left : Site) → StandsFor P S old N → IsSite S x.session x.world →
    site_at mid.sites.items ≡ with_site_at x.session x.world None (site_at old.sites.items) → site_at new.sites.items ≡ with_site_at x.session x.world (Some left) (site_at mid.sites.items) →
    FindsNothing P S N x.session x.world new.board left → new.entries ≡ old.entries → TakesTurn P S N x old new
rests P S N x old mid new left h i taken put m entries =
    let rows : site_at new.sites.items ≡ with_site_at x.session x.world (Some left) (site_at old.sites.items) = put-back x.session x.world None (Some left) (site_at old.sites.items) (site_at mid.sites.items) (site_at new.sites.items) taken put in
    let Ahead : ℕ → World → Site → Option Site → Type 0 = λ z v a b. IsSite S z v → IsAhead P S v a b in
    let sites : (z : ℕ) (v : World) → Ahead z v (N.site z v) (with_site_at x.session x.world (Some left) (site_at old.sites.items) z v) =
    λ z v. subst (λ (a : Site). Ahead z v a (with_site_at x.session x.world (Some left) (site_at old.sites.items) z v)) (stays-at x.session x.world (N.site x.session x.world) N.site refl z v)
    (at-place Ahead x.session x.world (N.site x.session x.world) (Some left) N.site (site_at old.sites.items) (λ j. m.ahead) h.sites z v) in
    record {
      deeds = [];
      after = N;
      turn = m.turn;
      made = record {
        stands = record { board = m.same; sites = λ z v. subst (λ (f : Sites). Ahead z v (N.site z v) (f z v)) (sym rows) (sites z v) };
        entries = entries ∙ sym (append-nil old.entries);
      };
    }

-- what is held stays ready
pub ready-after : (x : SiteName) (left : Option Site) (old new : Running) → IsReady old → site_at new.sites.items ≡ with_site_at x.session x.world left (site_at old.sites.items) → IsClosedLeft left →
    length new.sites.items ≡ length old.sites.items → length new.board.desks ≡ length old.board.desks → IsClosedBoard (board_of new.board) → IsReady new
ready-after x left old new h rows closed sessions desks board = record {
  desks = desks ∙ (h.desks ∙ sym sessions);
  sites = λ z v. subst (λ (f : Sites). IsClosedLeft (f z v)) (sym rows) (all-at IsClosedLeft x.session x.world left (site_at old.sites.items) closed h.sites z v);
  links = board;
}

pub ready-back : (x : SiteName) (left : Option Site) (old mid new : Running) → IsReady old → site_at mid.sites.items ≡ with_site_at x.session x.world None (site_at old.sites.items) → site_at new.sites.items ≡ with_site_at x.session x.world left (site_at mid.sites.items) → IsClosedLeft left →
    length new.sites.items ≡ length old.sites.items → length new.board.desks ≡ length old.board.desks → IsClosedBoard (board_of new.board) → IsReady new
ready-back x left old mid new h taken put = ready-after x left old new h (put-back x.session x.world None left (site_at old.sites.items) (site_at mid.sites.items) (site_at new.sites.items) taken put)
