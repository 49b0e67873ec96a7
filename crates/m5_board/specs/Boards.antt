-- The board with the desks in a list, and the changes of its desks.
use Rattle.std.specs.Prelude.{◌≡◌, ℕ, zero, suc, ◌≤◌, List, [], ◌∷◌, ◌++◌, length, Option, Some, None, slice_get, All}
use Rattle.m5_terms.specs.declared.types.World.{World}
use Rattle.m5_terms.specs.PerWorld.{each}
use Rattle.m5_script.specs.declared.items.TextPair.{TextPair}
use Rattle.m5_network.specs.Board.{Watch, Trigger, Event, Desk, Board, link, with_link, at_session}

-- the first item is taken off the link
pub record TakesLink {Item : Type 0} (v w : World) (i : Item) (old new : Desk Item) : Type 0 where
  pub first : link old v w ≡ i ∷ link new v w
  pub after : new ≡ with_link v w (link new v w) old

-- where a trigger was added last, it is taken off
abbrev pub IsUnfired : {Item : Type 0} → Desk Item → Desk Item → Type 0
IsUnfired {Item} old new = (d : Desk Item) → (t : Trigger) → old ≡ record d { triggers = d.triggers ++ t ∷ [] } → new ≡ d

pub record BoardLists (Item : Type 0) : Type 0 where
  pub pairs : List TextPair
  pub watches : List Watch
  pub desks : List (Desk Item)

abbrev pub empty_desk : {Item : Type 0} → Desk Item
empty_desk = record { texts = []; handlers = []; triggers = []; events = []; links = each (λ v. each (λ w. [])) }

abbrev pub desk_or_empty : {Item : Type 0} → Option (Desk Item) → Desk Item
desk_or_empty None = empty_desk
desk_or_empty (Some d) = d

-- sessions are numbered from 1
abbrev pub desk_at : {Item : Type 0} → List (Desk Item) → ℕ → Desk Item
desk_at ds zero = empty_desk
desk_at ds (suc s) = desk_or_empty (slice_get ds s)

abbrev pub board_of : {Item : Type 0} → BoardLists Item → Board Item
board_of b = record { pairs = b.pairs; watches = b.watches; desks = desk_at b.desks }

abbrev pub IsSession : {Item : Type 0} → ℕ → List (Desk Item) → Type 0
IsSession s ds = (1 ≤ s) × (s ≤ length ds)

-- each watch is of a session that is there
abbrev pub IsBoard : {Item : Type 0} → BoardLists Item → Type 0
IsBoard b = All (λ (w : Watch). IsSession w.session b.desks) b.watches

-- the session's desk is changed so, and every other one stays
pub record ChangesDesk {Item : Type 0} (s : ℕ) (change : Desk Item → Desk Item) (old new : List (Desk Item)) : Type 0 where
  pub desk : desk_at new ≡ at_session s (change (desk_at old s)) (desk_at old)
  pub count : length new ≡ length old

-- the first item is taken off the session's link
pub record Receives {Item : Type 0} (s : ℕ) (from to : World) (i : Item) (old new : List (Desk Item)) : Type 0 where
  pub rest : List Item
  pub first : link (desk_at old s) from to ≡ i ∷ rest
  pub changes : ChangesDesk s (with_link from to rest) old new

-- the session's first trigger is taken
pub record TakesTrigger {Item : Type 0} (s : ℕ) (t : Trigger) (old new : List (Desk Item)) : Type 0 where
  pub rest : List Trigger
  pub first : (desk_at old s).triggers ≡ t ∷ rest
  pub changes : ChangesDesk s (λ (d : Desk Item). record d { triggers = rest }) old new

-- the session's next event is taken
pub record TakesEvent {Item : Type 0} (s : ℕ) (e : Event) (old new : List (Desk Item)) : Type 0 where
  pub rest : List Event
  pub first : (desk_at old s).events ≡ e ∷ rest
  pub changes : ChangesDesk s (λ (d : Desk Item). record d { events = rest }) old new
