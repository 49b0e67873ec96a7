-- The worlds that have sites.
use Rattle.std.specs.Prelude.{List, [], ◌∷◌, Contains}
use Rattle.m5_terms.specs.declared.types.World.{World}
use Rattle.m5_terms.specs.declared.types.World.TheVariants.{Home, Server, Panel}

-- one site of each in every session, in the order of the sites' numbers
abbrev pub site_worlds : List World
site_worlds = Home ∷ Server ∷ Panel ∷ []

-- Any is no such world: it is where a term is typed that means the same at each of them
abbrev pub IsSiteWorld : World → Type 0
IsSiteWorld w = Contains site_worlds w
