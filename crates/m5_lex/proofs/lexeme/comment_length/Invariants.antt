use Rattle.std.proofs.Common.{◌≡◌, ◌+◌, ◌-◌, ◌≤◌, length, drop}
use Rattle.m5_lex.specs.Lexeme.{longer, comment_length}
use Rattle.m5_lex.proofs.lexeme.comment_length.Given as goal

-- what is read on is the answer, and so many comments are open
abbrev pub invariant-loop-at : goal.invariant-loop-at
invariant-loop-at l = (longer l.at (comment_length l.depth (drop l.at l.rest)) ≡ comment_length 1 l.rest) × (1 ≤ l.depth) × (l.depth ≤ l.at + 1) × (l.at ≤ length l.rest)

abbrev pub decreases-loop-at : goal.decreases-loop-at
decreases-loop-at l = length l.rest - l.at
