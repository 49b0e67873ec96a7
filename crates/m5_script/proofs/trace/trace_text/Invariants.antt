use Rattle.std.proofs.Common.{◌≡◌, take}
use Rattle.std.specs.List.{flat_map}
use Rattle.m5_script.specs.Trace.{line_of}
use Rattle.m5_script.proofs.trace.trace_text.Given as goal

abbrev pub invariant-loop-entry : goal.invariant-loop-entry
invariant-loop-entry l = l.out.items ≡ flat_map line_of (take l.entry-index l.entry-items)
