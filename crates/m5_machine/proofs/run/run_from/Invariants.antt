use Rattle.std.proofs.Common.{◌≡◌}
use Rattle.m5_machine.specs.Run.{run_from}
use Rattle.m5_machine.specs.code.Running.{MayEnter}
use Rattle.m5_machine.proofs.run.run_from.Given as goal

abbrev pub invariant-loop-bench : goal.invariant-loop-bench
invariant-loop-bench l = record {
  same : run_from l.code l.fn.bench.fuel l.fn.closure l.fn.value l.fn.to l.fn.bench ≡ run_from l.code l.bench.fuel l.closure l.value l.to l.bench;
  enters : MayEnter l.code l.bench l.closure l.value l.to;
}

abbrev pub decreases-loop-bench : goal.decreases-loop-bench
decreases-loop-bench l = l.bench.fuel
