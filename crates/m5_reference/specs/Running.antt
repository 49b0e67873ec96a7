-- A run on its way, as the code holds it, beside the network that it stands for; and what turns make of both.
use Rattle.std.specs.Prelude.{◌≡◌, ℕ, ◌≤◌, List, [], ◌++◌, length, map, All}
use Rattle.m5_terms.specs.declared.types.World.{World}
use Rattle.m5_terms.specs.Worlds.{IsSiteWorld}
use Rattle.m5_meaning.specs.Site.{Program, Item}
use Rattle.m5_script.specs.Scenario.{Scenario}
use Rattle.m5_script.specs.declared.items.SiteName.{SiteName}
use Rattle.m5_network.specs.Claim.{has_seal}
use Rattle.m5_network.specs.Entries.{Deed, entry_of}
use Rattle.m5_network.specs.Plain.{Turns, Rounds, joined}
use Rattle.m5_network.specs.Run.{Network, IsSite}
use Rattle.m5_board.specs.Boards.{board_of}
use Rattle.m5_reference.specs.Ahead.{IsAhead}
use Rattle.m5_sites.specs.ClosedSites.{IsClosedBoard, IsClosedLeft}
use Rattle.m5_reference.specs.Reference.{FirstTurn}
use Rattle.m5_sites.specs.Sites.{site_at}
use Rattle.m5_reference.specs.Turning.{IsStuck}
use Rattle.m5_reference.specs.declared.running.Going.{Going}
use Rattle.m5_reference.specs.declared.running.Going.TheVariants as going
use Rattle.m5_reference.specs.declared.running.Running.{Running}

-- the board is the network's, and each site is the network's or ahead of it
pub record StandsFor (P : Program) (S : Scenario) (r : Running) (N : Network) : Type 0 where
  pub board : board_of r.board ≡ N.board
  pub sites : (s : ℕ) (w : World) → IsSite S s w → IsAhead P S w (N.site s w) (site_at r.sites.items s w)

-- as many desks as sessions, and nothing with free variables
pub record IsReady (r : Running) : Type 0 where
  pub desks : length r.board.desks ≡ length r.sites.items
  pub sites : (s : ℕ) (w : World) → IsClosedLeft (site_at r.sites.items s w)
  pub links : IsClosedBoard (board_of r.board)

-- the name of a site that is held
pub record IsNamed (count : ℕ) (x : SiteName) : Type 0 where
  pub from_one : 1 ≤ x.session
  pub to_last : x.session ≤ count
  pub world : IsSiteWorld x.world

-- as many sessions as before, ready again
pub record StaysReady (old new : Running) : Type 0 where
  pub count : length new.sites.items ≡ length old.sites.items
  pub ready : IsReady new

-- the deeds and the network after them, for which the code's run stands; the history shows the deeds
pub record Made (P : Program) (S : Scenario) (old new : Running) (deeds : List (Deed Item)) (after : Network) : Type 0 where
  pub stands : StandsFor P S new after
  pub entries : new.entries ≡ old.entries ++ map (entry_of has_seal) deeds

-- one turn of the site
pub record TakesTurn (P : Program) (S : Scenario) (N : Network) (x : SiteName) (old new : Running) : Type 0 where
  pub deeds : List (Deed Item)
  pub after : Network
  pub turn : FirstTurn P S N x deeds after
  pub made : Made P S old new deeds after

-- one turn of each site
pub record TakesTurns (P : Program) (S : Scenario) (N : Network) (xs : List SiteName) (old new : Running) : Type 0 where
  pub deeds : List (List (Deed Item))
  pub after : Network
  pub turns : Turns (FirstTurn P S) N xs deeds after
  pub made : Made P S old new (joined deeds) after

-- rounds that make deeds
pub record TakesRounds (P : Program) (S : Scenario) (N : Network) (xs : List SiteName) (old new : Running) : Type 0 where
  pub rounds : List (List (List (Deed Item)))
  pub after : Network
  pub going : Rounds (FirstTurn P S) xs N rounds after
  pub made : Made P S old new (joined (map joined rounds)) after

-- rounds that make deeds, and one that makes none
pub record Settles (P : Program) (S : Scenario) (N : Network) (xs : List SiteName) (old new : Running) : Type 0 where
  pub rounds : List (List (List (Deed Item)))
  pub settled : Network
  pub going : Rounds (FirstTurn P S) xs N rounds settled
  pub silent : List (List (Deed Item))
  pub after : Network
  pub last : Turns (FirstTurn P S) settled xs silent after
  pub found_nothing : joined silent ≡ []
  pub made : Made P S old new (joined (map joined rounds)) after

-- some site of the run is not stopped and stuck, in a network to which turns lead
pub record Strands (P : Program) (S : Scenario) (N : Network) : Type 0 where
  pub xs : List SiteName
  pub deeds : List (List (Deed Item))
  pub at : Network
  pub turns : Turns (FirstTurn P S) N xs deeds at
  pub names : All (λ (x : SiteName). IsSite S x.session x.world) xs
  pub session : ℕ
  pub world : World
  pub site : IsSite S session world
  pub stuck : IsStuck P at session world

abbrev pub TurnEnds : Program → Scenario → Network → SiteName → Running → Running → Going → Type 0
TurnEnds P S N x old new going.On = TakesTurn P S N x old new
TurnEnds P S N x old new going.Wrong = IsStuck P N x.session x.world

abbrev pub TurnsEnd : Program → Scenario → Network → List SiteName → Running → Running → Going → Type 0
TurnsEnd P S N xs old new going.On = TakesTurns P S N xs old new
TurnsEnd P S N xs old new going.Wrong = Strands P S N

abbrev pub RoundsEnd : Program → Scenario → Network → List SiteName → Running → Running → Going → Type 0
RoundsEnd P S N xs old new going.On = Settles P S N xs old new
RoundsEnd P S N xs old new going.Wrong = Strands P S N
