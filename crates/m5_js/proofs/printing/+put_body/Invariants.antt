use Rattle.std.proofs.Common.{◌≡◌, ◌+◌, ◌++◌, ◌≤◌}
use Rattle.m5_machine.specs.Body.{fills}
use Rattle.m5_machine.specs.Blocks.{HasBody, body_at}
use Rattle.m5_machine.specs.code.Running.{size}
use Rattle.m5_js.specs.Spelling.{body_text}
use Rattle.m5_js.proofs.printing.+put_body.Given as goal

abbrev pub decreases-put_body : goal.decreases-put_body
decreases-put_body l = size (body_at l.code.now l.start)

abbrev pub invariant-loop-instruction : goal.invariant-loop-instruction
invariant-loop-instruction l = record {
  body : HasBody l.code l.at;
  room : l.number + fills (body_at l.code l.at) ≤ 65534;
  text : l.out.items ++ body_text l.number (body_at l.code l.at) ≡ l.fn.out.items ++ body_text l.first (body_at l.code l.start);
  smaller : size (body_at l.code l.at) ≤ size (body_at l.code l.start);
}

abbrev pub decreases-loop-instruction : goal.decreases-loop-instruction
decreases-loop-instruction l = size (body_at l.code l.at)
