use Rattle.std.proofs.Common.{◌≡◌, ◌++◌, map}
use Rattle.m5_dict.specs.Lines.{line_of}
use Rattle.m5_dict.proofs.targets.Targets.lines.Given as goal

-- the lines so far, and those of the keys that are left
abbrev pub invariant-loop-target : goal.invariant-loop-target
invariant-loop-target l = l.lines.items ++ map line_of l.target-iterator ≡ l.self
