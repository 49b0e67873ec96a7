-- The opening board as the code's lists.
use Rattle.std.specs.Prelude.{ℕ, zero, suc, ◌==◌, List, [], ◌∷◌, ◌++◌, map, filter}
use Rattle.m5_terms.specs.declared.types.World.{World}
use Rattle.m5_terms.specs.declared.per_world.PerWorld.{PerWorld}
use Rattle.m5_terms.specs.PerWorld.{each}
use Rattle.m5_script.specs.Scenario.{Scenario}
use Rattle.m5_script.specs.declared.items.PageEvent.{PageEvent}
use Rattle.m5_script.specs.declared.items.RawItem.{RawItem}
use Rattle.m5_network.specs.Board.{Event, Desk}
use Rattle.m5_network.specs.Opening.{event_of, raws_for, opening_desk_by}

-- the events of a session
abbrev pub session_events : List PageEvent → ℕ → List Event
session_events es s = map event_of (filter (λ (e : PageEvent). e.session == s) es)

-- the raw bytes that lie in a session's link from v to w, each made an item
abbrev pub link_items : {Item : Type 0} → (List ℕ → Item) → ℕ → World → World → List RawItem → List Item
link_items make s v w rs = map (λ (r : RawItem). make r.bytes) (raws_for s v w rs)

-- those in each link from a world of a session
abbrev pub links_opened : {Item : Type 0} → (List ℕ → Item) → List RawItem → ℕ → World → PerWorld (List Item)
links_opened make rs s v = each (λ w. link_items make s v w rs)

-- the desks of the first n sessions
abbrev pub desks_opened : {Item : Type 0} → (List ℕ → Item) → Scenario → ℕ → List (Desk Item)
desks_opened make S zero = []
desks_opened make S (suc n) = desks_opened make S n ++ opening_desk_by make S (suc n) ∷ []
