use Rattle.std.proofs.Common.{◌≡◌}
use Rattle.m5_tests.proofs.hall.add_often.Given as goal

abbrev pub invariant-loop-done : goal.invariant-loop-done
invariant-loop-done g l = (l.pass.hall ≡ l.hall) × (l.pass.enters ≡ l.done)
