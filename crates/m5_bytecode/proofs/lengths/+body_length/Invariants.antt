use Rattle.std.proofs.Common.{◌≡◌, ◌+◌, ◌≤◌, length}
use Rattle.m5_machine.specs.Blocks.{HasBody, body_at}
use Rattle.m5_machine.specs.code.Running.{size}
use Rattle.m5_bytecode.specs.Spelling.{body_bytes}
use Rattle.m5_bytecode.proofs.lengths.+body_length.Given as goal

abbrev pub decreases-body_length : goal.decreases-body_length
decreases-body_length l = size (body_at l.code.now l.start)

abbrev pub invariant-loop-instruction : goal.invariant-loop-instruction
invariant-loop-instruction l = record {
  body : HasBody l.code l.at;
  sum : l.total + length (body_bytes (body_at l.code l.at)) ≡ length (body_bytes (body_at l.code l.start));
  smaller : size (body_at l.code l.at) ≤ size (body_at l.code l.start);
}

abbrev pub decreases-loop-instruction : goal.decreases-loop-instruction
decreases-loop-instruction l = size (body_at l.code l.at)
