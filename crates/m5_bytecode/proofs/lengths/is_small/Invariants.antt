use Rattle.std.proofs.Common.{◌≡◌, ◌<◌, ◌^◌, take}
use Rattle.m5_bytecode.specs.Server.{steps_length}
use Rattle.m5_bytecode.proofs.lengths.is_small.Given as goal

abbrev pub invariant-loop-step : goal.invariant-loop-step
invariant-loop-step l = record {
  sum : l.total ≡ steps_length (take l.step-index l.steps);
  small : l.total < 2 ^ 32;
}
