-- The laws of runs, over any kind of sites.
use Rattle.std.specs.Prelude.{◌≡◌, ℕ, List, ◌++◌, map, Option, Some}
use Rattle.std.specs.List.{AllByRecursion as Each}
use Rattle.m5_terms.specs.Machine.{asks}
use Rattle.m5_terms.specs.declared.ask.AskOf.TheVariants as ask
use Rattle.m5_terms.specs.declared.ask.AnswerOf.{AnswerOf}
use Rattle.m5_terms.specs.declared.ask.Cause.{Cause}
use Rattle.m5_terms.specs.declared.ask.Cause.TheVariants.{Table}
use Rattle.m5_terms.specs.declared.types.World.{World}
use Rattle.m5_script.specs.Scenario.{Scenario, IsScript}
use Rattle.m5_script.specs.declared.items.SiteName.{SiteName}
use Rattle.m5_network.specs.Claim.{place_of}
use Rattle.m5_network.specs.Entries.{Deed, entry_of}
use Rattle.m5_network.specs.Kinds.{Kind, NetOf, Place, IsAmong, RunOf, IsOver}
use Rattle.m5_network.specs.Plain.{TurnOf, Turns, Rounds, PlainOrder, joined}

-- the first places of a run make its first deeds, and the others go on from there
abbrev pub PrefixIsRun : Kind → Type 0
PrefixIsRun K =
    (n : ℕ) (N M : NetOf K) (ps qs : List Place) (ds : List (Deed K.Item)) → RunOf K n N (ps ++ qs) ds M →
    (L : NetOf K) × (es fs : List (Deed K.Item)) × (ds ≡ es ++ fs) × RunOf K n N ps es L × RunOf K n L qs fs M

-- two runs by the same places from one network make the same deeds and lead to the same network
abbrev pub PlacesDetermine : Kind → Type 0
PlacesDetermine K =
    (n : ℕ) (N L M : NetOf K) (ps : List Place) (ds es : List (Deed K.Item)) → RunOf K n N ps ds L → RunOf K n N ps es M →
    (ds ≡ es) × (L ≡ M)

-- a run from where another one ends goes on with it
abbrev pub RunsCompose : Kind → Type 0
RunsCompose K =
    (n : ℕ) (N L M : NetOf K) (ps qs : List Place) (ds es : List (Deed K.Item)) → RunOf K n N ps ds L → RunOf K n L qs es M →
    RunOf K n N (ps ++ qs) (ds ++ es) M

-- stops that sites ask for and stops that places choose stand apart: where an answer goes on, a site asks for a stop by a full
-- table alone, and no state licenses a stop by that
pub record StopsApart (K : Kind) : Type 0 where
  pub asked : (s : ℕ) (w : World) (x y : K.State) (cause : Cause) (resume : AnswerOf K.Item → Option K.State) (r : AnswerOf K.Item) → K.next s w x ≡ asks (ask.Stop cause) resume → resume r ≡ Some y → cause ≡ Table
  pub chosen : (s : ℕ) (w : World) (x : K.State) → K.licensed s w Table x → ⊥

-- the places that the entries of these deeds name
abbrev pub places_shown : (K : Kind) → List (Deed K.Item) → List Place
places_shown K ds = map (λ (d : Deed K.Item). place_of (entry_of (K.has_seal d.session) d)) ds

-- the name of one of the run's sites
abbrev pub IsSiteNamed : ℕ → SiteName → Type 0
IsSiteNamed n x = IsAmong n x.session x.world

-- turns of the run's sites make a run by the places that their deeds show
abbrev pub TurnsAreRuns : Kind → Type 0
TurnsAreRuns K =
    StopsApart K → (n : ℕ) (N M : NetOf K) (xs : List SiteName) (dss : List (List (Deed K.Item))) → Each (IsSiteNamed n) xs → Turns (TurnOf K) N xs dss M →
    RunOf K n N (places_shown K (joined dss)) (joined dss) M

-- so do rounds
abbrev pub RoundsAreRuns : Kind → Type 0
RoundsAreRuns K =
    StopsApart K → (n : ℕ) (N M : NetOf K) (xs : List SiteName) (rounds : List (List (List (Deed K.Item)))) → Each (IsSiteNamed n) xs → Rounds (TurnOf K) xs N rounds M →
    RunOf K n N (places_shown K (joined (map joined rounds))) (joined (map joined rounds)) M

-- so does the plain order, and after it each site is at rest or stopped
abbrev pub PlainOrderIsRun : Kind → Type 0
PlainOrderIsRun K =
    StopsApart K → (S : Scenario) (N M : NetOf K) (deeds : List (Deed K.Item)) → IsScript S → PlainOrder (TurnOf K) S N deeds M →
    RunOf K S.sessions N (places_shown K deeds) deeds M × IsOver K S.sessions M
