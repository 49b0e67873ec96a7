-- What a whole run in the plain order makes of a run on its way.
use Rattle.std.specs.Prelude.{◌≡◌, List, [], length, sum_by}
use Rattle.m5_terms.specs.declared.ask.Entry.{Entry}
use Rattle.m5_terms.specs.declared.ask.End.{End}
use Rattle.m5_meaning.specs.Site.{Program, Item}
use Rattle.m5_script.specs.Scenario.{Scenario}
use Rattle.m5_network.specs.Claim.{ending, stop_count}
use Rattle.m5_network.specs.Entries.{Deed}
use Rattle.m5_network.specs.Plain.{PlainOrder}
use Rattle.m5_network.specs.Opening.{opening}
use Rattle.m5_network.specs.Run.{Network}
use Rattle.m5_reference.specs.Reference.{FirstTurn}
use Rattle.m5_reference.specs.Running.{StandsFor, IsReady, Made, Strands}
use Rattle.m5_reference.specs.declared.running.Going.{Going}
use Rattle.m5_reference.specs.declared.running.Going.TheVariants as going
use Rattle.m5_reference.specs.declared.running.Running.{Running}

-- the code's run stands for the opening, and shows nothing so far
pub record Opens (P : Program) (S : Scenario) (r : Running) : Type 0 where
  pub stands : StandsFor P S r (opening P S)
  pub ready : IsReady r
  pub count : length r.sites.items ≡ S.sessions
  pub entries : r.entries ≡ []

-- the whole plain order, at each site's first moments
pub record Finishes (P : Program) (S : Scenario) (N : Network) (old new : Running) : Type 0 where
  pub deeds : List (Deed Item)
  pub after : Network
  pub plain : PlainOrder (FirstTurn P S) S N deeds after
  pub made : Made P S old new deeds after

abbrev pub OrderEnds : Program → Scenario → Network → Running → Running → Going → Type 0
OrderEnds P S N old new going.On = Finishes P S N old new
OrderEnds P S N old new going.Wrong = Strands P S N

-- the last line of a history with these entries
abbrev pub end_of : List Entry → End
end_of es = ending (sum_by (λ (e : Entry). stop_count e.act) es)
