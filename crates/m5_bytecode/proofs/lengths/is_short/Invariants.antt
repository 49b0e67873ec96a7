use Rattle.std.proofs.Common.{◌≡◌, ◌+◌, ◌<◌, ◌^◌, drop, length}
use Rattle.std.specs.List.{flat_map}
use Rattle.m5_machine.specs.Labelled.{blocks_from, blocks_of}
use Rattle.m5_bytecode.specs.Spelling.{block_bytes}
use Rattle.m5_bytecode.proofs.lengths.is_short.Given as goal

abbrev pub invariant-loop-label : goal.invariant-loop-label
invariant-loop-label l = record {
  walked : l.total + length (flat_map block_bytes (blocks_from l.code l.label (drop l.label l.starts))) ≡ 2 + length (flat_map block_bytes (blocks_of l.code));
  small : l.total < 2 ^ 32;
}
