use Rattle.std.proofs.Common.{arith, refl}
use Rattle.m5_machine.proofs.Walking.{block_begins}
use Rattle.m5_bytecode.proofs.lines.put_lines.Goals as goal

pub put_line-requires-clause-body : goal.put_line-requires-clause-body
put_line-requires-clause-body c = (block_begins _ c.starts-starts.result.now c.loop-label.label _ c.requires.flat c.starts-starts.ensures (omega arith) refl c.if-start.true).body
