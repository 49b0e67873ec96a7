-- Where each turn of one way is a turn of another, so are turns, rounds and the plain order.
use Rattle.std.proofs.Common.{List, [], ◌∷◌}
use Rattle.m5_script.specs.Scenario.{Scenario}
use Rattle.m5_script.specs.declared.items.SiteName.{SiteName}
use Rattle.m5_network.specs.Entries.{Deed}
use Rattle.m5_network.specs.Kinds.{NetworkOf}
use Rattle.m5_network.specs.Plain.{TurnTakingOf, Turns, sites_of, Rounds, PlainOrder}

-- each turn of the one way is a turn of the other
abbrev pub IsWeaker : {State Item : Type 0} → TurnTakingOf State Item → TurnTakingOf State Item → Type 0
IsWeaker {State} {Item} T U = (N : NetworkOf State Item) (x : SiteName) (ds : List (Deed Item)) (M : NetworkOf State Item) → T N x ds M → U N x ds M

pub turns-weaker : {State Item : Type 0} → (T U : TurnTakingOf State Item) → IsWeaker T U → (N : NetworkOf State Item) (xs : List SiteName) (dss : List (List (Deed Item))) (M : NetworkOf State Item) → Turns T N xs dss M → Turns U N xs dss M
turns-weaker T U f N [] [] M t = t
turns-weaker T U f N [] (ds ∷ dss) M t = absurd t
turns-weaker T U f N (x ∷ xs) [] M t = absurd t
turns-weaker T U f N (x ∷ xs) (ds ∷ dss) M t = (t.0, f N x ds t.0 t.1, turns-weaker T U f t.0 xs dss M t.2)

pub rounds-weaker : {State Item : Type 0} → (T U : TurnTakingOf State Item) → IsWeaker T U → (xs : List SiteName) (N : NetworkOf State Item) (rounds : List (List (List (Deed Item)))) (M : NetworkOf State Item) → Rounds T xs N rounds M → Rounds U xs N rounds M
rounds-weaker T U f xs N [] M t = t
rounds-weaker T U f xs N (round ∷ rounds) M t = (t.0, turns-weaker T U f N xs round t.0 t.1, t.2, rounds-weaker T U f xs t.0 rounds M t.3)

pub order-weaker : {State Item : Type 0} → (T U : TurnTakingOf State Item) → IsWeaker T U → (S : Scenario) (N : NetworkOf State Item) (deeds : List (Deed Item)) (M : NetworkOf State Item) → PlainOrder T S N deeds M → PlainOrder U S N deeds M
order-weaker T U f S N deeds M o = record {
  named = o.named;
  opened = o.opened;
  order = turns-weaker T U f N S.order o.named o.opened o.order;
  rounds = o.rounds;
  settled = o.settled;
  going = rounds-weaker T U f (sites_of S.sessions) o.opened o.rounds o.settled o.going;
  silent = o.silent;
  last = turns-weaker T U f o.settled (sites_of S.sessions) o.silent M o.last;
  found_nothing = o.found_nothing;
  all = o.all;
}
