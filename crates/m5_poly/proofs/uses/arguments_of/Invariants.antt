use Rattle.std.proofs.Common.{◌≡◌, ◌++◌, map, drop}
use Rattle.m5_poly.specs.Uses.{arguments_of, stripped, in_front, parts}
use Rattle.m5_poly.specs.code.Views.{scope_of}
use Rattle.m5_poly.proofs.uses.arguments_of.Given as goal

-- the arguments so far, and those of what is left, the part so far in front of the first
abbrev pub invariant-loop-placed : goal.invariant-loop-placed
invariant-loop-placed l = l.arguments.items ++ map stripped (in_front l.part (parts (scope_of l.scope) (drop l.placed-index l.content))) ≡ arguments_of (scope_of l.scope) l.content
