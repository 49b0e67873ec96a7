-- What is true of a region's lists and of the room that was reserved for them.
use Rattle.std.specs.Prelude.{◌≡◌, ℕ, ◌*◌, ◌≤◌, List, length}
use Rattle.m5_region.specs.code.Stored.{Spells, objects_in}

pub record Keeps (kinds content starts : List ℕ) (room kinds_room content_room starts_room : ℕ) : Type 0 where
  pub spells : Spells kinds content starts (objects_in kinds content)
  pub counted : length starts ≡ length (objects_in kinds content)
  pub starts_within : length starts ≤ length kinds
  pub eight : length content ≡ 8 * length kinds
  pub within : length kinds ≤ room
  pub small : room ≤ 1048640
  pub kinds_fit : room ≤ kinds_room
  pub content_fit : 8 * room ≤ content_room
  pub starts_fit : room ≤ starts_room
