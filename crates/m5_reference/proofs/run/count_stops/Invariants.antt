use Rattle.std.proofs.Common.{◌≡◌, sum_by, take}
use Rattle.m5_terms.specs.declared.ask.Entry.{Entry}
use Rattle.m5_network.specs.Claim.{stop_count}
use Rattle.m5_reference.proofs.run.count_stops.Given as goal

abbrev pub invariant-loop-entry : goal.invariant-loop-entry
invariant-loop-entry l = l.count ≡ sum_by (λ (e : Entry). stop_count e.act) (take l.entry-index l.entries)
