use Rattle.std.proofs.Common.{◌≡◌, take, drop}
use Rattle.m5_cli.specs.Input.{after_program, parts_from, parts_of}
use Rattle.m5_cli.proofs.input.split.Given as goal

-- the bytes passed belong to the program
abbrev pub invariant-loop-index : goal.invariant-loop-index
invariant-loop-index l = parts_of l.input ≡ after_program (take l.index l.input) (parts_from l.at_start (drop l.index l.input))
