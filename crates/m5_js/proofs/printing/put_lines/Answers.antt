use Rattle.std.proofs.Common.{arith, refl}
use Rattle.m5_machine.proofs.Walking.{block_begins}
use Rattle.m5_js.proofs.printing.put_lines.Goals as goal

pub put_line-requires : goal.put_line-requires
put_line-requires c = block_begins _ c.starts-starts.result.now c.loop-label.label _ c.requires.flat c.starts-starts.ensures (omega arith) refl c.if-start.true
