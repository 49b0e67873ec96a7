use Rattle.std.proofs.Common.{◌≡◌}
use Rattle.m5_tests.proofs.hall.join_all.Given as goal

abbrev pub invariant-loop-pass : goal.invariant-loop-pass
invariant-loop-pass l = l.into.hall ≡ l.hall
