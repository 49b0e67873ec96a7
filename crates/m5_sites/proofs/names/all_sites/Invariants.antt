use Rattle.std.proofs.Common.{◌≡◌}
use Rattle.m5_network.specs.Plain.{sites_of}
use Rattle.m5_sites.proofs.names.all_sites.Given as goal

abbrev pub invariant-loop-before : goal.invariant-loop-before
invariant-loop-before l = l.names.items ≡ sites_of l.before
