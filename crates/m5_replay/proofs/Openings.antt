-- The code's run stands for the opening, and has no free variables.
use Rattle.std.proofs.Common.{◌≡◌, List, [], length, sym, ap, subst, ◌∙◌}
use Rattle.std.specs.Prelude.{replicate}
use Rattle.std.proofs.lemmas.List.{length-replicate}
use Rattle.m5_terms.proofs.SiteWorlds.{is-real}
use Rattle.m5_meaning.specs.Site.{Program}
use Rattle.m5_script.specs.Scenario.{Scenario}
use Rattle.m5_network.specs.Opening.{opening, opening_board}
use Rattle.m5_source_site.specs.ClosedSite.{IsClosedProgram}
use Rattle.m5_board.specs.Boards.{board_of}
use Rattle.m5_sites.specs.ClosedSites.{IsClosedBoard, IsClosedLeft}
use Rattle.m5_sites.specs.Opening.{sites_opened}
use Rattle.m5_sites.specs.Sites.{SessionSites, site_at}
use Rattle.m5_sites.proofs.Opened.{opened-at, rows-closed, links-closed}
use Rattle.m5_replay.specs.code.Running.{StandsAt, IsReady}
use Rattle.m5_replay.specs.declared.running.Running.{Running}

pub opens-stands : (P : Program) (S : Scenario) (r : Running) → r.sites.items ≡ replicate S.sessions (sites_opened P) → board_of r.board ≡ opening_board S → r.weight ≡ 0 → r.stops ≡ 0 → StandsAt S r (opening P S) 0 []
opens-stands P S r rows board weight stops = record {
  board = board;
  sites = λ s w i. ap (λ (xs : List SessionSites). site_at xs s w) rows ∙ opened-at P S.sessions s w (is-real w i.world) i.from_one i.to_last;
  weighs = weight;
  stops = stops;
}

pub opens-ready : (P : Program) (S : Scenario) (r : Running) → IsClosedProgram P → r.sites.items ≡ replicate S.sessions (sites_opened P) → board_of r.board ≡ opening_board S → length r.board.desks ≡ S.sessions → IsReady S.sessions r
opens-ready P S r h rows board desks = record {
  count = ap length rows ∙ length-replicate S.sessions (sites_opened P);
  desks = desks;
  sites = λ s w. subst (λ (xs : List SessionSites). IsClosedLeft (site_at xs s w)) (sym rows) (rows-closed P h S.sessions s w);
  links = subst IsClosedBoard (sym board) (links-closed S);
}
