use Rattle.std.proofs.Common.{◌≡◌, replicate}
use Rattle.m5_sites.specs.Opening.{sites_opened}
use Rattle.m5_sites.proofs.opening.open_sites.Given as goal

abbrev pub invariant-loop-number : goal.invariant-loop-number
invariant-loop-number l = l.sites.items ≡ replicate l._number (sites_opened l.program)
