use Rattle.std.proofs.Common.{◌-◌, length}
use Rattle.m5_bytecode.specs.code.Blocks.{BlocksHere, BlocksRead}
use Rattle.m5_bytecode.proofs.decoding.decode.Given as goal

abbrev pub invariant-loop-number : goal.invariant-loop-number
invariant-loop-number l = record {
  found : BlocksRead l.initial.input.rest.now l.input.rest.now l.starts.items l.steps.items l.number;
  here : BlocksHere 0 l.count l.initial.input.rest.now → BlocksHere (length l.starts.items) (l.count - l.number) l.input.rest.now;
}
