use Rattle.std.proofs.Common.{ℕ}
use Rattle.m5_terms.specs.Machine.{Comes}
use Rattle.m5_site.specs.Object.{code_of}
use Rattle.m5_site.specs.Site.{site_next}
use Rattle.m5_site.specs.code.Sound.{IsSoundState}
use Rattle.m5_site.proofs.computing.computed.Given as goal

abbrev pub invariant-threads : goal.invariant-threads
invariant-threads l = record {
  comes : (s : ℕ) → (n : ℕ) × Comes (site_next l.object s l.world) n l.fn.state l.state;
  sound : IsSoundState (code_of l.object l.world) l.state;
}

abbrev pub decreases-threads : goal.decreases-threads
decreases-threads l = l.state.bench.fuel
