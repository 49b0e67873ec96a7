use Rattle.std.proofs.Common.{◌≡◌, ◌≤◌, ◌+◌, take}
use Rattle.std.specs.Prelude.{count_by, ◌==◌}
use Rattle.m5_poly.specs.Walk.{Made}
use Rattle.m5_poly.proofs.instances.Instances.number_of.Given as goal

-- one more than how many were counted
abbrev pub invariant-loop-index : goal.invariant-loop-index
invariant-loop-index l = (l.number ≡ 1 + count_by (λ (m : Made). m.generic == l.generic) (take l.index l.self)) × (l.number ≤ l.index + 1)
