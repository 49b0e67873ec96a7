use Rattle.m5_cps_convert.specs.code.Programs.{FunctionsSoFar}
use Rattle.m5_cps_convert.proofs.to_cps.write_functions.Given as goal

abbrev pub invariant-loop-index : goal.invariant-loop-index
invariant-loop-index l = FunctionsSoFar l.fn.walk l.walk l.fn.functions l.index l.starts.items
