-- A turn at the site's first moment is a turn, and so for rounds and the plain order.
use Rattle.std.proofs.Common.{List, [], ◌∷◌}
use Rattle.m5_meaning.specs.Site.{Program, Item}
use Rattle.m5_script.specs.Scenario.{Scenario}
use Rattle.m5_script.specs.declared.items.SiteName.{SiteName}
use Rattle.m5_network.specs.Entries.{Deed}
use Rattle.m5_network.specs.Plain.{Turn, Turns, Rounds, PlainOrder}
use Rattle.m5_network.specs.Run.{Network}
use Rattle.m5_network.proofs.Orders.{turns-weaker, rounds-weaker, order-weaker}
use Rattle.m5_reference.specs.Reference.{FirstTurn}

pub first-turn-is-turn : (P : Program) (S : Scenario) (N : Network) (x : SiteName) (ds : List (Deed Item)) (M : Network) → FirstTurn P S N x ds M → Turn P S N x ds M
first-turn-is-turn P S N x [] M t = t.0
first-turn-is-turn P S N x (d ∷ ds) M t = t.0

pub first-turns-are-turns : (P : Program) (S : Scenario) (N : Network) (xs : List SiteName) (dss : List (List (Deed Item))) (M : Network) → Turns (FirstTurn P S) N xs dss M → Turns (Turn P S) N xs dss M
first-turns-are-turns P S N xs dss M t = turns-weaker (FirstTurn P S) (Turn P S) (first-turn-is-turn P S) N xs dss M t

pub first-rounds-are-rounds : (P : Program) (S : Scenario) (xs : List SiteName) (N : Network) (rounds : List (List (List (Deed Item)))) (M : Network) → Rounds (FirstTurn P S) xs N rounds M → Rounds (Turn P S) xs N rounds M
first-rounds-are-rounds P S xs N rounds M t = rounds-weaker (FirstTurn P S) (Turn P S) (first-turn-is-turn P S) xs N rounds M t

pub first-order-is-order : (P : Program) (S : Scenario) (N : Network) (deeds : List (Deed Item)) (M : Network) → PlainOrder (FirstTurn P S) S N deeds M → PlainOrder (Turn P S) S N deeds M
first-order-is-order P S N deeds M o = order-weaker (FirstTurn P S) (Turn P S) (first-turn-is-turn P S) S N deeds M o
