-- The history of the plain order at first moments is a reference run.
use Rattle.std.proofs.Common.{◌≡◌, List, map, sum_by, All, sym, ap, subst, ◌∙◌, arith}
use Rattle.m5_terms.specs.declared.ask.Entry.{Entry}
use Rattle.m5_terms.specs.declared.ask.History.{History}
use Rattle.m5_typing.specs.Program.{IsProgram}
use Rattle.m5_meaning.specs.Site.{Program, Item}
use Rattle.m5_script.specs.Scenario.{Scenario, IsScript}
use Rattle.m5_network.specs.Claim.{has_seal, place_of, primitive_of, IsAtItsWorld, stop_count, ending, IsRunOf}
use Rattle.m5_network.specs.Entries.{Deed, entry_of}
use Rattle.m5_network.specs.Opening.{opening}
use Rattle.m5_network.specs.Plain.{Turn, PlainOrder}
use Rattle.m5_network.specs.Run.{Network, source, Run}
use Rattle.m5_sound.proofs.Networks.{at-their-worlds}
use Rattle.m5_reference.specs.Budget.{with_lesser_budget}
use Rattle.m5_reference.specs.Reference.{FirstTurn, IsReferenceRun}
use Rattle.m5_reference.proofs.FirstTurns.{first-order-is-order}
use Rattle.m5_network.specs.Laws.{places_shown}
use Rattle.m5_network.proofs.Asking.{source-apart}
use Rattle.m5_network.proofs.Finished.{order-finished}
use Rattle.m5_network.proofs.PlainRuns.{places-are, order-run}

-- what shows the deeds of the plain order, and ends as they end, is a run by the places that it names
pub order-claims : (P : Program) (S : Scenario) (H : History) (deeds : List (Deed Item)) (M : Network) → PlainOrder (Turn P S) S (opening P S) deeds M → IsProgram P → IsScript S → H.entries ≡ map (entry_of has_seal) deeds → H.end ≡ ending (sum_by (λ (e : Entry). stop_count e.act) H.entries) → IsRunOf P S H
order-claims P S H deeds M o p h shown ended =
    let run : Run P S (opening P S) (places_shown (source P S) deeds) deeds M = order-run (source P S) (source-apart P S) S (opening P S) M deeds h o in
    let names : map place_of H.entries ≡ places_shown (source P S) deeds = ap (map place_of) shown ∙ places-are (source P S) deeds in
    record {
      deeds = deeds;
      last = M;
      run = subst (λ ps. Run P S (opening P S) ps deeds M) (sym names) run;
      shown = shown;
      finished = order-finished (source P S) S (opening P S) M deeds o;
      worlds = subst (All (λ (e : Entry). IsAtItsWorld (primitive_of e.act) e.world)) (sym shown) (at-their-worlds P S (places_shown (source P S) deeds) deeds M p h run);
      ended = ended;
    }

-- and by first moments it is a reference run
pub first-order-claims : (P : Program) (S : Scenario) (H : History) (deeds : List (Deed Item)) (M : Network) → PlainOrder (FirstTurn P S) S (opening P S) deeds M → IsProgram P → IsScript S → H.entries ≡ map (entry_of has_seal) deeds → H.end ≡ ending (sum_by (λ (e : Entry). stop_count e.act) H.entries) → IsReferenceRun P S H
first-order-claims P S H deeds M o p h shown ended = record {
  deeds = deeds;
  last = M;
  plain = o;
  shown = shown;
  claim = order-claims P S H deeds M (first-order-is-order P S (opening P S) deeds M o) p h shown ended;
}

-- the lesser budget is within a script's limits
pub lesser-budget-is-script : (S : Scenario) → IsScript S → IsScript (with_lesser_budget S)
lesser-budget-is-script S h = record {
  sessions = h.sessions;
  steps = (omega (arith, h.steps.0), omega (arith, h.steps.1));
  region = h.region;
  items = h.items;
}
