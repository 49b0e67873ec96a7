use Rattle.std.proofs.Common.{◌-◌, length}
use Rattle.m5_script.proofs.Lines.{SoFar}
use Rattle.m5_script.proofs.read.read_script.Given as goal

abbrev pub invariant-loop-at : goal.invariant-loop-at
invariant-loop-at l = SoFar l.text l.at l.number l.reading

abbrev pub decreases-loop-at : goal.decreases-loop-at
decreases-loop-at l = length l.text - l.at
