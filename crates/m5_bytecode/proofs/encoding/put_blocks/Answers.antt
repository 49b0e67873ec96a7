use Rattle.std.proofs.Common.{arith, refl}
use Rattle.m5_machine.proofs.Walking.{block_begins}
use Rattle.m5_bytecode.proofs.encoding.put_blocks.Goals as goal

pub put_block-requires-clause-body : goal.put_block-requires-clause-body
put_block-requires-clause-body c = (block_begins _ c.starts-starts.result.now c.loop-label.label _ c.requires.flat c.starts-starts.ensures (omega arith) refl c.if-start.true).body
