use Rattle.std.proofs.Common.{◌≡◌, ◌-◌, ◌≤◌, length, drop}
use Rattle.m5_terms.specs.Text.{IsText}
use Rattle.m5_terms.specs.Quoted.{joined, quoted}
use Rattle.m5_terms.proofs.quoted.read_quoted.Given as goal

-- what is read on, behind what was read, is the answer
abbrev pub invariant-loop-at : goal.invariant-loop-at
invariant-loop-at l = (joined l.value.items l.at (quoted (drop l.at l.rest)) ≡ quoted l.rest) × (l.at ≤ length l.rest) × IsText l.value.items

abbrev pub decreases-loop-at : goal.decreases-loop-at
decreases-loop-at l = length l.rest - l.at
