-- The code's run stands for the opening, and its sites and its board have no free variables.
use Rattle.std.proofs.Common.{◌≡◌, ◌≢◌, ℕ, zero, suc, ◌<◌, ◌≤◌, List, [], ◌∷◌, length, Option, Some, All, refl, sym, ap, subst, ◌∙◌, arith}
use Rattle.std.specs.Prelude.{slice_get, replicate}
use Rattle.std.proofs.lemmas.List.{length-replicate, get_or-replicate}
use Rattle.std.proofs.lemmas.Option.{slice_get-get_or}
use Rattle.std.proofs.lemmas.List.Elements.{All-nil, All-cons, All-map}
use Rattle.m5_terms.specs.declared.types.World.{World}
use Rattle.m5_terms.specs.declared.types.World.TheVariants.{Home, Server, Panel, Any}
use Rattle.m5_meaning.specs.Site.{Program, Item, raw}
use Rattle.m5_script.specs.Scenario.{Scenario}
use Rattle.m5_script.specs.declared.items.RawItem.{RawItem}
use Rattle.m5_network.specs.Opening.{opening_board, opening_site, opening_threads, raw_items, raws_for}
use Rattle.m5_terms.specs.declared.per_world.PerWorld.{PerWorld}
use Rattle.m5_terms.specs.PerWorld.{at, each}
use Rattle.m5_terms.proofs.PerWorlds.{each-at}
use Rattle.m5_terms.proofs.SiteWorlds.{is-real}
use Rattle.m5_source_site.specs.ClosedSite.{IsClosedFrame, IsClosedThread, IsClosedSite, IsClosedProgram, IsClosedItem}
use Rattle.m5_terms.specs.Closed.{IsClosed}
use Rattle.m5_board.specs.Boards.{board_of}
use Rattle.m5_reference.specs.Ahead.{IsAhead}
use Rattle.m5_sites.specs.ClosedSites.{IsClosedBoard, IsClosedLeft}
use Rattle.m5_reference.specs.Finishing.{Opens}
use Rattle.m5_sites.specs.Opening.{sites_opened}
use Rattle.m5_sites.specs.Sites.{SessionSites, site_in, site_of_session, site_at}
use Rattle.m5_reference.specs.declared.running.Running.{Running}
use Rattle.m5_sites.proofs.Opened.{opened-at, rows-closed, links-closed}
use Rattle.m5_reference.proofs.NextMoment.{begin_free}

opened-ahead : (P : Program) (S : Scenario) (w : World) → IsAhead P S w (opening_site (opening_threads P w)) (Some (opening_site (opening_threads P w)))
opened-ahead P S Home = (refl, (0, begin_free P S Home (opening_site (opening_threads P Home))))
opened-ahead P S Server = (refl, (0, begin_free P S Server (opening_site (opening_threads P Server))))
opened-ahead P S Panel = (refl, (0, begin_free P S Panel (opening_site (opening_threads P Panel))))
opened-ahead P S Any = (refl, (0, begin_free P S Any (opening_site (opening_threads P Any))))

in-rows : (P : Program) (S : Scenario) (n s : ℕ) (w : World) → w ≢ Any → 1 ≤ s → s ≤ n → IsAhead P S w (opening_site (opening_threads P w)) (site_at (replicate n (sites_opened P)) s w)
in-rows P S n s w r h k = subst (IsAhead P S w (opening_site (opening_threads P w))) (sym (opened-at P n s w r h k)) (opened-ahead P S w)

pub opens : (P : Program) (S : Scenario) (r : Running) → IsClosedProgram P → r.sites.items ≡ replicate S.sessions (sites_opened P) → board_of r.board ≡ opening_board S → length r.board.desks ≡ S.sessions → r.entries ≡ [] → Opens P S r
opens P S r h rows board desks entries =
    let count : length r.sites.items ≡ S.sessions = ap length rows ∙ length-replicate S.sessions (sites_opened P) in
    record {
      stands = record {
        board = board;
        sites = λ s w i. subst (λ (xs : List SessionSites). IsAhead P S w (opening_site (opening_threads P w)) (site_at xs s w)) (sym rows) (in-rows P S S.sessions s w (is-real w i.world) i.from_one i.to_last);
      };
      ready = record {
        desks = desks ∙ sym count;
        sites = λ s w. subst (λ (xs : List SessionSites). IsClosedLeft (site_at xs s w)) (sym rows) (rows-closed P h S.sessions s w);
        links = subst IsClosedBoard (sym board) (links-closed S);
      };
      count = count;
      entries = entries;
    }
