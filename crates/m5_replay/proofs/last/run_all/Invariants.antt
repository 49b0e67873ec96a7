use Rattle.std.proofs.Common.{◌≡◌, ℕ}
use Rattle.m5_terms.specs.declared.types.World.{World}
use Rattle.m5_script.specs.Scenario.{Scenario}
use Rattle.m5_network.specs.Run.{Network, IsSite}
use Rattle.m5_board.specs.Boards.{board_of}
use Rattle.m5_sites.specs.Sites.{kept, site_at}
use Rattle.m5_replay.specs.code.Looking.{HasLimits}
use Rattle.m5_replay.specs.code.Running.{IsReady}
use Rattle.m5_replay.proofs.RunSites.{Ahead}
use Rattle.m5_replay.proofs.last.run_all.Given as goal

-- the sites before this one have run, and the others still stand
abbrev pub invariant-sites : goal.invariant-sites
invariant-sites l =
    IsReady l.limits.sessions l.running
    × (l.running.stops ≡ l.initial.running.stops)
    × ((S : Scenario) (N : Network) → HasLimits S l.limits → board_of l.initial.running.board ≡ N.board → ((s : ℕ) (w : World) → IsSite S s w → site_at l.initial.running.sites.items s w ≡ kept (N.site s w)) → Ahead l.program S N l.names l.name-index l.quiet l.initial.running l.running)
