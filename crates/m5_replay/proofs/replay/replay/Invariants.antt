use Rattle.std.specs.Prelude.{length}
use Rattle.m5_replay.specs.Lines.{lines}
use Rattle.m5_replay.specs.code.Running.{IsReady}
use Rattle.m5_replay.proofs.Passing.{Stands}
use Rattle.m5_replay.proofs.replay.replay.Given as goal

-- the lines so far fit, and the code's run stands for where they lead
abbrev pub invariant-lines : goal.invariant-lines
invariant-lines l = IsReady l.limits.sessions l.running × Stands l.measured l.script l.trace (lines l.rest) l.number l.running

abbrev pub decreases-lines : goal.decreases-lines
decreases-lines l = length l.rest
