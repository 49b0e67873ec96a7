-- Where a run begins, of any kind of sites.
use Rattle.std.specs.Prelude.{ℕ, ◌==◌, ◌&&◌, List, [], map, filter}
use Rattle.m5_terms.specs.TypeExpression.{same_world}
use Rattle.m5_terms.specs.declared.types.World.{World}
use Rattle.m5_terms.specs.declared.types.World.TheVariants.{Home, Server}
use Rattle.m5_meaning.specs.Site.{Program, Item, raw}
pub use Rattle.m5_meaning.specs.Opening.{opening_site, opening_threads}
use Rattle.m5_script.specs.Scenario.{Scenario}
use Rattle.m5_script.specs.declared.items.PageEvent.{PageEvent}
use Rattle.m5_script.specs.declared.items.RawItem.{RawItem}
use Rattle.m5_terms.specs.PerWorld.{each}
use Rattle.m5_network.specs.Board.{Board, Desk, Event}
use Rattle.m5_network.specs.Kinds.{Kind, NetOf}
use Rattle.m5_network.specs.Run.{Network, source}

abbrev pub event_of : PageEvent → Event
event_of e = record { element = e.element; text = e.text }

-- raw bytes come from the other end: a home's from its server, any other site's from its home
abbrev pub raw_from : World → World
raw_from Home = Server
raw_from _ = Home

-- the raw items of a session's link from v to w, in the script's order
abbrev pub raws_for : ℕ → World → World → List RawItem → List RawItem
raws_for s v w rs = filter (λ (r : RawItem). (r.session == s) && (same_world r.world w && same_world v (raw_from w))) rs

-- the board has the script's pairs, events and raw items, each of which is made an item
abbrev pub opening_desk_by : {Item : Type 0} → (List ℕ → Item) → Scenario → ℕ → Desk Item
opening_desk_by make S s = record {
  texts = [];
  handlers = [];
  triggers = [];
  events = map event_of (filter (λ (e : PageEvent). e.session == s) S.events);
  links = each (λ v. each (λ w. map (λ (r : RawItem). make r.bytes) (raws_for s v w S.raws)));
}

abbrev pub opening_board_by : {Item : Type 0} → (List ℕ → Item) → Scenario → Board Item
opening_board_by make S = record { pairs = S.pairs; watches = []; desks = opening_desk_by make S }

abbrev pub opening_of : (K : Kind) → Scenario → NetOf K
opening_of K S = record { site = K.opens; board = opening_board_by K.raw S }

-- of the meaning's sites

abbrev pub raw_items : ℕ → World → World → List RawItem → List Item
raw_items s v w rs = map (λ (r : RawItem). raw r.bytes) (raws_for s v w rs)

abbrev pub opening_desk : Scenario → ℕ → Desk Item
opening_desk = opening_desk_by raw

abbrev pub opening_board : Scenario → Board Item
opening_board = opening_board_by raw

abbrev pub opening : Program → Scenario → Network
opening P S = opening_of (source P S) S
