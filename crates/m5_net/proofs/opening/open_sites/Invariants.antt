use Rattle.std.proofs.Common.{◌≡◌, length}
use Rattle.m5_net.specs.Opening.{AreRows}
use Rattle.m5_net.proofs.opening.open_sites.Given as goal

abbrev pub invariant-loop-before : goal.invariant-loop-before
invariant-loop-before l = AreRows l.object l.limits 1 l.sites.items × (length l.sites.items ≡ l.before)
