use Rattle.m5_dictionary.proofs.Lines.{AreSoFar}
use Rattle.m5_dictionary.proofs.check.are_lines.Given as goal

abbrev pub invariant-loop-own : goal.invariant-loop-own
invariant-loop-own l = AreSoFar l.types l.own
