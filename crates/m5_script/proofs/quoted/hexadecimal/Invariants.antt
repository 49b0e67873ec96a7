use Rattle.std.proofs.Common.{◌-◌, length}
use Rattle.m5_script.proofs.Texts.{BytesSoFar}
use Rattle.m5_script.proofs.quoted.hexadecimal.Given as goal

abbrev pub invariant-loop-at : goal.invariant-loop-at
invariant-loop-at l = BytesSoFar l.item.items l.at l.digits

abbrev pub decreases-loop-at : goal.decreases-loop-at
decreases-loop-at l = length l.digits - l.at
