-- A run on its way, as the code holds it, beside the network that it stands for; and what checked lines make of both.
use Rattle.std.specs.Prelude.{◌≡◌, ◌⊎◌, ℕ, ◌+◌, Bool, true, false, List, [], ◌∷◌, ◌++◌, length, map, sum_by, Option, Some, None, All}
use Rattle.m5_terms.specs.declared.types.World.{World}
use Rattle.m5_terms.specs.declared.ask.Entry.{Entry}
use Rattle.m5_meaning.specs.Site.{Program, Site, Item}
use Rattle.m5_script.specs.Scenario.{Scenario}
use Rattle.m5_script.specs.declared.items.SiteName.{SiteName}
use Rattle.m5_network.specs.Claim.{has_seal, stop_count}
use Rattle.m5_network.specs.Entries.{Deed, entry_of}
use Rattle.m5_network.specs.Plain.{sites_of}
use Rattle.m5_network.specs.Run.{Network, IsSite, IsAtRest}
use Rattle.m5_board.specs.Boards.{BoardLists, board_of}
use Rattle.m5_sites.specs.Sites.{kept, site_at, with_site_at}
use Rattle.m5_sites.specs.ClosedSites.{IsClosedBoard, IsClosedLeft}
use Rattle.m5_network.specs.Run.{Place}
use Rattle.m5_replay.specs.Fitting.{Fits, Misfits, Overruns, SettlesSite, SettlesAll, ExceedsAt, ExceedsAmong, IsLast}
use Rattle.m5_replay.specs.Verdicts.{Passed, line_number}
use Rattle.m5_replay.specs.declared.check.Checked.{Checked}
use Rattle.m5_replay.specs.declared.check.Checked.TheVariants as checked
use Rattle.m5_replay.specs.declared.running.Running.{Running}

abbrev pub stops_of : List (Deed Item) → ℕ
stops_of ds = sum_by (λ (e : Entry). stop_count e.act) (map (entry_of has_seal) ds)

-- the board and the sites are the network's, a stopped site being gone; and what was run weighs so much, with these deeds
pub record StandsAt (S : Scenario) (r : Running) (N : Network) (weight : ℕ) (ds : List (Deed Item)) : Type 0 where
  pub board : board_of r.board ≡ N.board
  pub sites : (s : ℕ) (w : World) → IsSite S s w → site_at r.sites.items s w ≡ kept (N.site s w)
  pub weighs : r.weight ≡ weight
  pub stops : r.stops ≡ stops_of ds

-- but for the board and one site, which is taken out
pub record StandsBut (S : Scenario) (r : Running) (N : Network) (weight : ℕ) (ds : List (Deed Item)) (x : SiteName) : Type 0 where
  pub whole : ℕ → World → Option Site
  pub taken : site_at r.sites.items ≡ with_site_at x.session x.world None whole
  pub sites : (s : ℕ) (w : World) → IsSite S s w → whole s w ≡ kept (N.site s w)
  pub weighs : r.weight ≡ weight
  pub stops : r.stops ≡ stops_of ds

-- the sessions of the scenario have their sites and desks, and nothing has free variables
pub record IsReady (sessions : ℕ) (r : Running) : Type 0 where
  pub count : length r.sites.items ≡ sessions
  pub desks : length r.board.desks ≡ sessions
  pub sites : (s : ℕ) (w : World) → IsClosedLeft (site_at r.sites.items s w)
  pub links : IsClosedBoard (board_of r.board)

-- the line fits, and the code's run stands for what follows
pub record Advances (P : Program) (S : Scenario) (N : Network) (before : ℕ) (ds : List (Deed Item)) (line : List ℕ) (r : Running) : Type 0 where
  pub deed : Deed Item
  pub network : Network
  pub weight : ℕ
  pub fits : Fits P S N before line deed network weight
  pub stands : StandsAt S r network weight (ds ++ deed ∷ [])

abbrev pub IsChecked : Program → Scenario → Network → ℕ → List (Deed Item) → List ℕ → Place → Running → Checked → Type 0
IsChecked P S N before ds line p r checked.Fits = Advances P S N before ds line r
IsChecked P S N before ds line p r checked.Differs = Misfits P S N before line p
IsChecked P S N before ds line p r checked.Beyond = Overruns P S N before p

-- the last line is the one due, or is not, each site being run; or one comes to a moment beyond the budget
abbrev pub SettlesEach : Program → Scenario → Network → ℕ → Type 0
SettlesEach P S N before = (after : ℕ) × SettlesAll P S N before (sites_of S.sessions) after

abbrev pub IsCheckedLast : Program → Scenario → Network → ℕ → List (Deed Item) → List ℕ → Checked → Type 0
IsCheckedLast P S N before ds line checked.Fits = SettlesEach P S N before × IsLast P S N ds line
IsCheckedLast P S N before ds line checked.Differs = SettlesEach P S N before × (IsLast P S N ds line → ⊥)
IsCheckedLast P S N before ds line checked.Beyond = ExceedsAmong P S N before (sites_of S.sessions)

-- a site is at rest or stopped
abbrev pub IsQuiet : Program → Network → ℕ → World → Type 0
IsQuiet P N s w = IsAtRest P N s w ⊎ ((N.site s w).stopped ≡ true)

-- the line fits, and the code's run stands for what follows
pub record GoesOn (P : Program) (S : Scenario) (trace : List ℕ) (rest : List (List ℕ)) (number : ℕ) (r : Running) : Type 0 where
  pub passed : Passed P S trace rest
  pub stands : StandsAt S r passed.at passed.weight passed.deeds
  pub counted : line_number passed ≡ number + 1

-- one site runs to its next ask, if it is not stopped: what all weighs then, and whether it and those before it are at rest
pub record RunsOn (P : Program) (S : Scenario) (N : Network) (x : SiteName) (quiet now : Bool) (old new : Running) : Type 0 where
  pub settles : SettlesSite P S N old.weight x new.weight
  pub board : now ≡ true → board_of new.board ≡ N.board
  pub rests : now ≡ true → (quiet ≡ true) × IsQuiet P N x.session x.world
  pub busy : now ≡ false → (quiet ≡ false) ⊎ (IsQuiet P N x.session x.world → ⊥)

abbrev pub EndsRun : Program → Scenario → Network → SiteName → Bool → Running → Running → Option Bool → Type 0
EndsRun P S N x quiet old new None = ExceedsAt P S N old.weight x
EndsRun P S N x quiet old new (Some now) = RunsOn P S N x quiet now old new

-- each of these sites is at rest or stopped
abbrev pub AreQuiet : Program → Network → List SiteName → Type 0
AreQuiet P N xs = All (λ (x : SiteName). IsQuiet P N x.session x.world) xs

-- these sites run to their next asks, those that are not stopped: what all weighs then, and whether they are all at rest
pub record RunAll (P : Program) (S : Scenario) (N : Network) (xs : List SiteName) (quiet : Bool) (old new : Running) : Type 0 where
  pub settles : SettlesAll P S N old.weight xs new.weight
  pub rests : quiet ≡ true → AreQuiet P N xs
  pub busy : quiet ≡ false → AreQuiet P N xs → ⊥

abbrev pub AllEnd : Program → Scenario → Network → List SiteName → Running → Running → Option Bool → Type 0
AllEnd P S N xs old new None = ExceedsAmong P S N old.weight xs
AllEnd P S N xs old new (Some quiet) = RunAll P S N xs quiet old new

-- whether a site that came to this end is at rest; where it is, the board stays as it was
abbrev pub IsRestSeen : Program → Network → SiteName → BoardLists Item → Bool → Type 0
IsRestSeen P N x board true = IsAtRest P N x.session x.world × (board_of board ≡ N.board)
IsRestSeen P N x board false = IsAtRest P N x.session x.world → ⊥
