use Rattle.std.proofs.Common.{◌≡◌, take}
use Rattle.m5_typing.specs.Width.{functions_width}
use Rattle.m5_typing.proofs.width.width_of_functions.Given as goal

abbrev pub invariant-loop-function : goal.invariant-loop-function
invariant-loop-function l = l.widest ≡ functions_width (take l.function-index l.functions)
