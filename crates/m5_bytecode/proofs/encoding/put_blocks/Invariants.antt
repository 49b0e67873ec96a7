use Rattle.std.proofs.Common.{◌≡◌, ◌++◌, drop}
use Rattle.std.specs.List.{flat_map}
use Rattle.m5_machine.specs.Labelled.{blocks_from, blocks_of}
use Rattle.m5_bytecode.specs.Spelling.{block_bytes}
use Rattle.m5_bytecode.proofs.encoding.put_blocks.Given as goal

abbrev pub invariant-loop-label : goal.invariant-loop-label
invariant-loop-label l = l.out.items ++ flat_map block_bytes (blocks_from l.code l.label (drop l.label l.starts)) ≡ l.fn.out.items ++ flat_map block_bytes (blocks_of l.code)
