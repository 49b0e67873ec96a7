-- The reference run: the plain order, in which each site stops at the first moment at which it may.
use Rattle.std.specs.Prelude.{◌≡◌, ◌⊎◌, true, List, [], ◌∷◌, map}
use Rattle.m5_terms.specs.declared.ask.AskOf.TheVariants as ask
use Rattle.m5_terms.specs.declared.ask.History.{History}
use Rattle.m5_meaning.specs.Site.{Program, Item}
use Rattle.m5_script.specs.Scenario.{Scenario}
use Rattle.m5_script.specs.declared.items.SiteName.{SiteName}
use Rattle.m5_network.specs.Claim.{has_seal, IsRunOf}
use Rattle.m5_network.specs.Entries.{Deed, entry_of}
use Rattle.m5_network.specs.Opening.{opening}
use Rattle.m5_network.specs.Plain.{Turn, PlainOrder}
use Rattle.m5_network.specs.Run.{Network}
use Rattle.m5_network.specs.FirstMoment.{ByFirstMoment}

-- a turn of the plain order at the site's first moment; a look that finds nothing is one too
abbrev pub FirstTurn : Program → Scenario → Network → SiteName → List (Deed Item) → Network → Type 0
FirstTurn P S N x [] M = Turn P S N x [] M × (ByFirstMoment P S x.world (N.site x.session x.world) ask.Take ⊎ ((N.site x.session x.world).stopped ≡ true))
FirstTurn P S N x (d ∷ ds) M = Turn P S N x (d ∷ ds) M × ByFirstMoment P S x.world (N.site x.session x.world) d.query

-- the history shows the run in the plain order, to its end, and it is a run by the places that it names
pub record IsReferenceRun (P : Program) (S : Scenario) (H : History) : Type 0 where
  pub deeds : List (Deed Item)
  pub last : Network
  pub plain : PlainOrder (FirstTurn P S) S (opening P S) deeds last
  pub shown : H.entries ≡ map (entry_of has_seal) deeds
  pub claim : IsRunOf P S H
