-- What the code's run holds has no free variables, whatever site is put back or taken out.
use Rattle.std.proofs.Common.{◌≡◌, ℕ, Bool, true, false, if◌then◌else◌, length, Option, Some, None, refl, sym, subst, ◌∙◌}
use Rattle.m5_terms.specs.declared.types.World.{World}
use Rattle.m5_meaning.specs.Site.{Site}
use Rattle.m5_script.specs.declared.items.SiteName.{SiteName}
use Rattle.m5_source_site.specs.ClosedSite.{IsClosedSite}
use Rattle.m5_board.specs.Boards.{board_of}
use Rattle.m5_sites.specs.Sites.{kept, site_at, with_site_at}
use Rattle.m5_sites.specs.ClosedSites.{IsClosedBoard, IsClosedLeft}
use Rattle.m5_sites.proofs.SiteMaps.{all-at}
use Rattle.m5_replay.specs.code.Running.{IsReady}
use Rattle.m5_replay.specs.declared.running.Running.{Running}

by-stop : (b : Bool) (t : Site) → IsClosedSite t → IsClosedLeft (if b then None else Some t)
by-stop true t h = tt
by-stop false t h = h

pub kept-closed : (t : Site) → IsClosedSite t → IsClosedLeft (kept t)
kept-closed t h = by-stop t.stopped t h

-- one site is put or taken out
pub ready-after : (n : ℕ) (x : SiteName) (left : Option Site) (old new : Running) → IsReady n old → IsClosedLeft left → site_at new.sites.items ≡ with_site_at x.session x.world left (site_at old.sites.items) →
    length new.sites.items ≡ length old.sites.items → length new.board.desks ≡ length old.board.desks → IsClosedBoard (board_of new.board) → IsReady n new
ready-after n x left old new h closed rows sessions desks board = record {
  count = sessions ∙ h.count;
  desks = desks ∙ h.desks;
  sites = λ z v. subst (λ (f : ℕ → World → Option Site). IsClosedLeft (f z v)) (sym rows) (all-at IsClosedLeft x.session x.world left (site_at old.sites.items) closed h.sites z v);
  links = board;
}

same-some : (x y : Site) → Some x ≡ Some y → x ≡ y
same-some x y e = cc

runs-by : (b : Bool) (x y : Site) → Some x ≡ (if b then None else Some y) → (b ≡ false) × (x ≡ y)
runs-by true x y e = cc
runs-by false x y e = (refl, same-some x y e)

-- a site that is there has not stopped, and is the network's
pub kept-runs : (x y : Site) → Some x ≡ kept y → y.stopped ≡ false
kept-runs x y e = (runs-by y.stopped x y e).0

pub kept-self : (x y : Site) → Some x ≡ kept y → x ≡ y
kept-self x y e = (runs-by y.stopped x y e).1
