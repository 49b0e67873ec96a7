use Rattle.std.proofs.Common.{◌≡◌, ◌++◌, ◌≤◌}
use Rattle.m5_machine.specs.Blocks.{HasBody, body_at}
use Rattle.m5_machine.specs.code.Running.{size}
use Rattle.m5_bytecode.specs.Spelling.{body_bytes}
use Rattle.m5_bytecode.proofs.encoding.+put_body.Given as goal

abbrev pub decreases-put_body : goal.decreases-put_body
decreases-put_body l = size (body_at l.code.now l.start)

abbrev pub invariant-loop-instruction : goal.invariant-loop-instruction
invariant-loop-instruction l = record {
  body : HasBody l.code l.at;
  bytes : l.out.items ++ body_bytes (body_at l.code l.at) ≡ l.fn.out.items ++ body_bytes (body_at l.code l.start);
  smaller : size (body_at l.code l.at) ≤ size (body_at l.code l.start);
}

abbrev pub decreases-loop-instruction : goal.decreases-loop-instruction
decreases-loop-instruction l = size (body_at l.code l.at)
