-- The plain order up to a site's turn.
use Rattle.std.specs.Prelude.{◌≡◌, ◌⊎◌, ℕ, List, ◌++◌, map, take, Some, slice_get}
use Rattle.m5_script.specs.Scenario.{Scenario}
use Rattle.m5_script.specs.declared.items.SiteName.{SiteName}
use Rattle.m5_network.specs.Entries.{Deed}
use Rattle.m5_network.specs.Kinds.{NetworkOf}
use Rattle.m5_network.specs.Plain.{TurnTakingOf, Turns, Rounds, sites_of, joined}

-- the turns of the sites before this one in the list
pub record TurnsUpTo {State Item : Type 0} (T : TurnTakingOf State Item) (xs : List SiteName) (N : NetworkOf State Item) (x : SiteName) (deeds : List (Deed Item)) (M : NetworkOf State Item) : Type 0 where
  pub number : ℕ
  pub site : slice_get xs number ≡ Some x
  pub made : List (List (Deed Item))
  pub turns : Turns T N (take number xs) made M
  pub all : deeds ≡ joined made

-- rounds that each make some deed, and then turns in one more
pub record RoundsUpTo {State Item : Type 0} (T : TurnTakingOf State Item) (xs : List SiteName) (N : NetworkOf State Item) (x : SiteName) (deeds : List (Deed Item)) (M : NetworkOf State Item) : Type 0 where
  pub rounds : List (List (List (Deed Item)))
  pub begins : NetworkOf State Item
  pub going : Rounds T xs N rounds begins
  pub made : List (Deed Item)
  pub last : TurnsUpTo T xs begins x made M
  pub all : deeds ≡ joined (map joined rounds) ++ made

-- the turns that the script names, and then rounds
pub record PastOrder {State Item : Type 0} (T : TurnTakingOf State Item) (S : Scenario) (N : NetworkOf State Item) (x : SiteName) (deeds : List (Deed Item)) (M : NetworkOf State Item) : Type 0 where
  pub named : List (List (Deed Item))
  pub opened : NetworkOf State Item
  pub order : Turns T N S.order named opened
  pub made : List (Deed Item)
  pub last : RoundsUpTo T (sites_of S.sessions) opened x made M
  pub all : deeds ≡ joined named ++ made

-- the turn is one that the script names, or one of a round
abbrev pub OrderUpTo : {State Item : Type 0} → TurnTakingOf State Item → Scenario → NetworkOf State Item → SiteName → List (Deed Item) → NetworkOf State Item → Type 0
OrderUpTo T S N x deeds M = TurnsUpTo T S.order N x deeds M ⊎ PastOrder T S N x deeds M
