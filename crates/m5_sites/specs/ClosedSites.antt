-- Boards, and sites that may be gone, without free variables.
use Rattle.std.specs.Prelude.{ℕ, Option, Some, None}
use Rattle.std.specs.List.{All}
use Rattle.m5_terms.specs.declared.types.World.{World}
use Rattle.m5_meaning.specs.Site.{Site, Item}
use Rattle.m5_network.specs.Board.{Board, link}
use Rattle.m5_source_site.specs.ClosedSite.{IsClosedSite, IsClosedItem}

-- no thread in a link has a free variable
abbrev pub IsClosedBoard : Board Item → Type 0
IsClosedBoard b = (s : ℕ) (v w : World) → All IsClosedItem (link (b.desks s) v w)

abbrev pub IsClosedLeft : Option Site → Type 0
IsClosedLeft None = Unit {0}
IsClosedLeft (Some x) = IsClosedSite x
