use Rattle.std.proofs.Common.{◌≡◌, ◌++◌, ◌≤◌}
use Rattle.m5_machine.specs.Blocks.{HasBody, body_at}
use Rattle.m5_machine.specs.code.Running.{size}
use Rattle.m5_bytecode.specs.Listing.{body_words}
use Rattle.m5_bytecode.proofs.lines.+put_body_words.Given as goal

abbrev pub decreases-put_body_words : goal.decreases-put_body_words
decreases-put_body_words l = size (body_at l.code.now l.start)

abbrev pub invariant-loop-instruction : goal.invariant-loop-instruction
invariant-loop-instruction l = record {
  body : HasBody l.code l.at;
  words : l.out.items ++ body_words (body_at l.code l.at) ≡ l.fn.out.items ++ body_words (body_at l.code l.start);
  smaller : size (body_at l.code l.at) ≤ size (body_at l.code l.start);
}

abbrev pub decreases-loop-instruction : goal.decreases-loop-instruction
decreases-loop-instruction l = size (body_at l.code l.at)
