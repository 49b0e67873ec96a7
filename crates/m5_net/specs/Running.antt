-- A run on its way, as the code holds it, beside the network that it stands for; and what a turn makes of both.
use Rattle.std.specs.Prelude.{◌≡◌, ℕ, ◌≤◌, false, List, [], ◌++◌, length, map}
use Rattle.std.specs.List.{AllByRecursion as Each}
use Rattle.m5_terms.specs.declared.types.World.{World}
use Rattle.m5_terms.specs.declared.ask.Entry.{Entry}
use Rattle.m5_terms.specs.Worlds.{IsSiteWorld}
use Rattle.m5_script.specs.Scenario.{Scenario}
use Rattle.m5_script.specs.declared.items.SiteName.{SiteName}
use Rattle.m5_network.specs.Claim.{IsAtItsWorld, primitive_of}
use Rattle.m5_network.specs.Entries.{Deed, entry_of}
use Rattle.m5_network.specs.Kinds.{IsAmong}
use Rattle.m5_network.specs.Opening.{opening_of}
use Rattle.m5_network.specs.Plain.{TurnOf, Turns, Rounds, PlainOrder, joined}
use Rattle.m5_board.specs.Boards.{board_of}
use Rattle.m5_shared.specs.Shared.{is_sealed}
use Rattle.m5_site.specs.declared.state.Limits.{Limits}
use Rattle.m5_site.specs.Kind.{object_kind, limits_of}
use Rattle.m5_site.specs.Object.{Bundle}
use Rattle.m5_net.specs.Sites.{site_at}
use Rattle.m5_net.specs.UpTo.{TurnsUpTo, RoundsUpTo, OrderUpTo}
use Rattle.m5_net.specs.Turning.{Net, IsLeft, IsReadyLeft, IsStuck}
use Rattle.m5_net.specs.declared.running.Going.{Going}
use Rattle.m5_net.specs.declared.running.Going.TheVariants as going
use Rattle.m5_net.specs.declared.running.Running.{Running}

-- the board is the network's, and each site of so many sessions is the network's or ahead of it
pub record StandsFor (O : Bundle) (n : Limits) (count : ℕ) (r : Running) (N : Net O n) : Type 0 where
  pub board : board_of r.shared.board ≡ N.board
  pub sites : (s : ℕ) (w : World) → IsAmong count s w → IsLeft O s w (N.site s w) (site_at r.sites.items s w)

-- as many desks as sessions, and each site computes
pub record IsReady (O : Bundle) (r : Running) : Type 0 where
  pub desks : length r.shared.board.desks ≡ length r.sites.items
  pub sites : (s : ℕ) (w : World) → IsReadyLeft O s w (site_at r.sites.items s w)

-- the name of a site that is held
pub record IsNamed (count : ℕ) (x : SiteName) : Type 0 where
  pub from_one : 1 ≤ x.session
  pub to_last : x.session ≤ count
  pub world : IsSiteWorld x.world

-- as many sessions as before, ready again
pub record StaysReady (O : Bundle) (old new : Running) : Type 0 where
  pub count : length new.sites.items ≡ length old.sites.items
  pub ready : IsReady O new

-- what a history shows of a deed
abbrev pub shows : Deed (List ℕ) → Entry
shows d = entry_of (is_sealed d.session) d

abbrev pub IsOwnDeed : Deed (List ℕ) → Type 0
IsOwnDeed d = IsAtItsWorld (primitive_of (shows d).act) d.world

-- the code's run stands for the network after these deeds; its entries show them, and each primitive stands at its world
pub record Made (O : Bundle) (n : Limits) (count : ℕ) (old new : Running) (deeds : List (Deed (List ℕ))) (after : Net O n) : Type 0 where
  pub stands : StandsFor O n count new after
  pub entries : new.shared.entries ≡ old.shared.entries ++ map shows deeds
  pub own : Each IsOwnDeed deeds

-- one turn of the site
pub record TakesTurn (O : Bundle) (n : Limits) (count : ℕ) (N : Net O n) (x : SiteName) (old new : Running) : Type 0 where
  pub deeds : List (Deed (List ℕ))
  pub after : Net O n
  pub turn : TurnOf (object_kind O n) N x deeds after
  pub made : Made O n count old new deeds after

-- the site is not stopped, its meaning goes wrong at its turn, and the history stays
abbrev pub TurnEnds : (O : Bundle) (n : Limits) → ℕ → Net O n → SiteName → Running → Running → Going → Type 0
TurnEnds O n count N x old new going.On = TakesTurn O n count N x old new
TurnEnds O n count N x old new (going.Wrong site label) = (site ≡ x) × (new.shared.entries ≡ old.shared.entries) × ((N.site x.session x.world).stopped ≡ false) × IsStuck O x.session x.world (N.site x.session x.world) label

-- one turn of each site
pub record TakesTurns (O : Bundle) (n : Limits) (count : ℕ) (N : Net O n) (xs : List SiteName) (old new : Running) : Type 0 where
  pub deeds : List (List (Deed (List ℕ)))
  pub after : Net O n
  pub turns : Turns (TurnOf (object_kind O n)) N xs deeds after
  pub made : Made O n count old new (joined deeds) after

-- rounds that make deeds
pub record TakesRounds (O : Bundle) (n : Limits) (count : ℕ) (N : Net O n) (xs : List SiteName) (old new : Running) : Type 0 where
  pub rounds : List (List (List (Deed (List ℕ))))
  pub after : Net O n
  pub going : Rounds (TurnOf (object_kind O n)) xs N rounds after
  pub made : Made O n count old new (joined (map joined rounds)) after

-- rounds that make deeds, and one that makes none
pub record Settles (O : Bundle) (n : Limits) (count : ℕ) (N : Net O n) (xs : List SiteName) (old new : Running) : Type 0 where
  pub rounds : List (List (List (Deed (List ℕ))))
  pub settled : Net O n
  pub going : Rounds (TurnOf (object_kind O n)) xs N rounds settled
  pub silent : List (List (Deed (List ℕ)))
  pub after : Net O n
  pub last : Turns (TurnOf (object_kind O n)) settled xs silent after
  pub found_nothing : joined silent ≡ []
  pub made : Made O n count old new (joined (map joined rounds)) after

-- the deeds lead up to a turn of this site, whose meaning goes wrong there at the block of a label; the entries show them
pub record Strands (O : Bundle) (n : Limits) (up_to : List (Deed (List ℕ)) → Net O n → Type 0) (old new : Running) (x : SiteName) (label : ℕ) : Type 0 where
  pub deeds : List (Deed (List ℕ))
  pub at : Net O n
  pub way : up_to deeds at
  pub entries : new.shared.entries ≡ old.shared.entries ++ map shows deeds
  pub own : Each IsOwnDeed deeds
  pub runs : (at.site x.session x.world).stopped ≡ false
  pub stuck : IsStuck O x.session x.world (at.site x.session x.world) label

abbrev pub TurnsEnd : (O : Bundle) (n : Limits) → ℕ → Net O n → List SiteName → Running → Running → Going → Type 0
TurnsEnd O n count N xs old new going.On = TakesTurns O n count N xs old new
TurnsEnd O n count N xs old new (going.Wrong x label) = Strands O n (TurnsUpTo (TurnOf (object_kind O n)) xs N x) old new x label

abbrev pub RoundsEnd : (O : Bundle) (n : Limits) → ℕ → Net O n → List SiteName → Running → Running → Going → Type 0
RoundsEnd O n count N xs old new going.On = Settles O n count N xs old new
RoundsEnd O n count N xs old new (going.Wrong x label) = Strands O n (RoundsUpTo (TurnOf (object_kind O n)) xs N x) old new x label

-- as a script opens it, with no entry so far
pub record Opens (O : Bundle) (S : Scenario) (r : Running) : Type 0 where
  pub stands : StandsFor O (limits_of S) S.sessions r (opening_of (object_kind O (limits_of S)) S)
  pub ready : IsReady O r
  pub count : length r.sites.items ≡ S.sessions
  pub entries : r.shared.entries ≡ []

-- the whole plain order
pub record Finishes (O : Bundle) (S : Scenario) (old new : Running) : Type 0 where
  pub deeds : List (Deed (List ℕ))
  pub last : Net O (limits_of S)
  pub plain : PlainOrder (TurnOf (object_kind O (limits_of S))) S (opening_of (object_kind O (limits_of S)) S) deeds last
  pub made : Made O (limits_of S) S.sessions old new deeds last

abbrev pub OrderEnds : Bundle → Scenario → Running → Running → Going → Type 0
OrderEnds O S old new going.On = Finishes O S old new
OrderEnds O S old new (going.Wrong x label) = Strands O (limits_of S) (OrderUpTo (TurnOf (object_kind O (limits_of S))) S (opening_of (object_kind O (limits_of S)) S) x) old new x label
