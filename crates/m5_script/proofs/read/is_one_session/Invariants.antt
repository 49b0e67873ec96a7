use Rattle.std.proofs.Common.{◌≡◌, ◌≤◌, ◌-◌, length, drop}
use Rattle.std.specs.Str.Lines.{lines}
use Rattle.m5_script.specs.Alone.{one_session, one_session_lines}
use Rattle.m5_script.proofs.read.is_one_session.Given as goal

-- the lines passed leave the rest to decide
abbrev pub invariant-loop-at : goal.invariant-loop-at
invariant-loop-at l = (l.at ≤ length l.text) × (one_session l.text ≡ one_session_lines l.seen (lines (drop l.at l.text)))

abbrev pub decreases-loop-at : goal.decreases-loop-at
decreases-loop-at l = length l.text - l.at
