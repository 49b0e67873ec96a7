use Rattle.std.proofs.Common.{◌≡◌, ◌+◌, ◌≤◌}
use Rattle.std.specs.List.{All}
use Rattle.m5_tests.proofs.hall.split_off.Given as goal

abbrev pub invariant-loop-made : goal.invariant-loop-made
invariant-loop-made l = (l.first.hall ≡ l.hall) × (l.count ≤ l.made + l.first.splits_left) × All (λ p. (p.hall ≡ l.hall) × (p.enters ≡ 0)) l.passes.items
