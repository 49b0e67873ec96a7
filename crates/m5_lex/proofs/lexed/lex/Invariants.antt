use Rattle.std.proofs.Common.{◌-◌, length}
use Rattle.m5_lex.proofs.Taking.{Reached}
use Rattle.m5_lex.proofs.lexed.lex.Given as goal

abbrev pub invariant-loop-at : goal.invariant-loop-at
invariant-loop-at l = Reached l.text l.at l.place l.tokens

abbrev pub decreases-loop-at : goal.decreases-loop-at
decreases-loop-at l = length l.text - l.at
