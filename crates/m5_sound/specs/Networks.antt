-- Typed networks, and what a site comes to along a run.
use Rattle.std.specs.Prelude.{◌≢◌, ℕ, List}
use Rattle.std.specs.List.{AllByRecursion as Each}
use Rattle.m5_terms.specs.declared.types.World.{World}
use Rattle.m5_terms.specs.declared.types.World.TheVariants.{Any}
use Rattle.m5_typing.specs.Context.{CellTypes}
use Rattle.m5_typing.specs.Program.{IsProgram}
use Rattle.m5_terms.specs.Machine.{Comes}
use Rattle.m5_meaning.specs.Site.{Program, Site, Item}
use Rattle.m5_meaning.specs.Step.{site_next}
use Rattle.m5_script.specs.Scenario.{Scenario, IsScript}
use Rattle.m5_network.specs.Board.{link}
use Rattle.m5_network.specs.Entries.{Deed}
use Rattle.m5_network.specs.Opening.{opening}
use Rattle.m5_network.specs.Run.{Network, Place, IsSite, Run, with_site}
use Rattle.m5_site_sound.specs.Settings.{setting}
use Rattle.m5_site_sound.specs.Sites.{SiteTyped, ItemTyped}
use Rattle.m5_sound.specs.Texts.{BoardHasTexts}

-- by the types T of each session's cells, sites and links are typed; no site has the world any
pub record NetworkTyped (P : Program) (T : ℕ → CellTypes) (N : Network) : Type 0 where
  pub sites : (s : ℕ) (w : World) → w ≢ Any → SiteTyped (setting P (T s)) w (N.site s w)
  pub links : (s : ℕ) (v w : World) → w ≢ Any → Each (ItemTyped (setting P (T s)) w) (link (N.board.desks s) v w)
  pub texts : BoardHasTexts N.board

-- a typed program, by a script, makes these deeds at these places, and then the site comes to x before it asks again
pub record ComesTo (P : Program) (S : Scenario) (ps : List Place) (ds : List (Deed Item)) (N : Network) (s : ℕ) (w : World) (x : Site) : Type 0 where
  pub program : IsProgram P
  pub script : IsScript S
  pub run : Run P S (opening P S) ps ds N
  pub site : IsSite S s w
  pub steps : ℕ
  pub comes : Comes (site_next P w) steps (N.site s w) x

-- the network with what the site came to
abbrev pub moved : ℕ → World → Site → Network → Network
moved s w x N = with_site s w x N.board N
