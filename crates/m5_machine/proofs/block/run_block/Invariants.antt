use Rattle.std.proofs.Common.{◌≡◌}
use Rattle.m5_machine.specs.Block.{run_body}
use Rattle.m5_machine.specs.Blocks.{body_at}
use Rattle.m5_machine.specs.code.Running.{IsReady, size}
use Rattle.m5_machine.proofs.block.run_block.Given as goal

abbrev pub invariant-loop-to : goal.invariant-loop-to
invariant-loop-to l = record {
  same : run_body l.code (body_at l.code l.start) l.fn.bench ≡ run_body l.code (body_at l.code l.at) l.bench;
  ready : IsReady l.code l.bench l.at;
  fuel : l.bench.fuel ≡ l.fn.bench.fuel;
}

abbrev pub decreases-loop-to : goal.decreases-loop-to
decreases-loop-to l = size (body_at l.code l.at)
