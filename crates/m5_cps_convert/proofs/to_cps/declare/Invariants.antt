use Rattle.std.proofs.Common.{take}
use Rattle.m5_cps_convert.specs.code.Programs.{Declares}
use Rattle.m5_cps_convert.proofs.to_cps.declare.Given as goal

abbrev pub invariant-loop-function : goal.invariant-loop-function
invariant-loop-function l = Declares l.initial.types l.types (take l.function-index l.functions) l.numbers.items
