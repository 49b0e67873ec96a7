use Rattle.std.proofs.Common.{◌≡◌, vec_len}
use Rattle.m5_hall.proofs.bells.silent.Given as goal

abbrev pub invariant-loop-made : goal.invariant-loop-made
invariant-loop-made l = vec_len l.rung ≡ l.made
