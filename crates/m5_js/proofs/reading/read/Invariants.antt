use Rattle.std.proofs.Common.{◌≤◌, ◌-◌, length}
use Rattle.m5_js.specs.code.Lines.{LinesRead}
use Rattle.m5_js.proofs.reading.read.Given as goal

abbrev pub invariant-loop-input : goal.invariant-loop-input
invariant-loop-input l = record {
  some : 1 ≤ l.line;
  found : LinesRead l.bytes l.input.rest.now l.starts.items l.steps.items (l.line - 1);
}

abbrev pub decreases-loop-input : goal.decreases-loop-input
decreases-loop-input l = length l.input.rest.now
