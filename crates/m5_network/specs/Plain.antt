-- The plain order, of any kind of sites: the turns that the script names, then rounds over all sites until one finds nothing.
use Rattle.std.specs.Prelude.{◌≡◌, ◌≢◌, ◌⊎◌, ℕ, zero, suc, true, false, List, [], ◌∷◌, ◌++◌, map}
use Rattle.m5_terms.specs.Worlds.{site_worlds}
use Rattle.m5_terms.specs.declared.ask.Cause.{Cause}
use Rattle.m5_meaning.specs.Site.{Program, Site, Item}
use Rattle.m5_script.specs.Scenario.{Scenario}
use Rattle.m5_script.specs.declared.items.SiteName.{SiteName}
use Rattle.m5_network.specs.Entries.{Deed}
use Rattle.m5_network.specs.Kinds.{Kind, NetworkOf, NetOf, IsAnswered, IsStoppedBy, Rests}
use Rattle.m5_network.specs.Run.{Network, source}

-- a turn makes a deed, finds nothing, or is a stopped site's and is skipped
abbrev pub TurnOf : (K : Kind) → NetOf K → SiteName → List (Deed K.Item) → NetOf K → Type 0
TurnOf K N x [] M = (M ≡ N) × (Rests (K.next x.session x.world) N x.session x.world ⊎ (K.is_stopped (N.site x.session x.world) ≡ true))
TurnOf K N x (d ∷ []) M =
    (K.is_stopped (N.site x.session x.world) ≡ false)
    × (IsAnswered (K.next x.session x.world) N x.session x.world d M ⊎ ((cause : Cause) × IsStoppedBy (K.licensed x.session x.world cause) K.halted N x.session x.world cause d M))
TurnOf K N x (d ∷ e ∷ ds) M = ⊥

abbrev pub Turn : Program → Scenario → Network → SiteName → List (Deed Item) → Network → Type 0
Turn P S = TurnOf (source P S)

-- which deeds a turn of the site makes from one network to the other
abbrev pub TurnTakingOf : Type 0 → Type 0 → Type 1
TurnTakingOf State Item = NetworkOf State Item → SiteName → List (Deed Item) → NetworkOf State Item → Type 0

abbrev pub TurnTaking : Type 1
TurnTaking = TurnTakingOf Site Item

-- one turn for each site, in this order
abbrev pub Turns : {State Item : Type 0} → TurnTakingOf State Item → NetworkOf State Item → List SiteName → List (List (Deed Item)) → NetworkOf State Item → Type 0
Turns T N [] [] M = M ≡ N
Turns {State} {Item} T N (x ∷ xs) (ds ∷ dss) M = (L : NetworkOf State Item) × T N x ds L × Turns T L xs dss M
Turns T N [] (ds ∷ dss) M = ⊥
Turns T N (x ∷ xs) [] M = ⊥

-- the sites of the first n sessions, by number
abbrev pub sites_of : ℕ → List SiteName
sites_of zero = []
sites_of (suc n) = sites_of n ++ map (λ w. record { session = suc n; world = w }) site_worlds

abbrev pub joined : {Item : Type 0} → List (List (Deed Item)) → List (Deed Item)
joined [] = []
joined (ds ∷ dss) = ds ++ joined dss

-- rounds over these sites that each make some deed
abbrev pub Rounds : {State Item : Type 0} → TurnTakingOf State Item → List SiteName → NetworkOf State Item → List (List (List (Deed Item))) → NetworkOf State Item → Type 0
Rounds T xs N [] M = M ≡ N
Rounds {State} {Item} T xs N (round ∷ rounds) M = (L : NetworkOf State Item) × Turns T N xs round L × (joined round ≢ []) × Rounds T xs L rounds M

-- the turns that the script names, rounds that each make some deed, and a round that makes none
pub record PlainOrder {State Item : Type 0} (T : TurnTakingOf State Item) (S : Scenario) (N : NetworkOf State Item) (deeds : List (Deed Item)) (M : NetworkOf State Item) : Type 0 where
  pub named : List (List (Deed Item))
  pub opened : NetworkOf State Item
  pub order : Turns T N S.order named opened
  pub rounds : List (List (List (Deed Item)))
  pub settled : NetworkOf State Item
  pub going : Rounds T (sites_of S.sessions) opened rounds settled
  pub silent : List (List (Deed Item))
  pub last : Turns T settled (sites_of S.sessions) silent M
  pub found_nothing : joined silent ≡ []
  pub all : deeds ≡ joined named ++ joined (map joined rounds)
