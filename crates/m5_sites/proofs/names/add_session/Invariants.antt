use Rattle.std.proofs.Common.{◌≡◌, ◌++◌, map, take}
use Rattle.m5_terms.specs.declared.types.World.{World}
use Rattle.m5_sites.proofs.names.add_session.Given as goal

abbrev pub invariant-loop-world : goal.invariant-loop-world
invariant-loop-world l = l.names.items ≡ l.fn.names.items ++ map (λ (w : World). record { session = l.session; world = w }) (take l.world-index l.world-items)
