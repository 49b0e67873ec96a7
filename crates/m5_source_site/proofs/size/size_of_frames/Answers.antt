use Rattle.std.proofs.Common.{◌+◌, arith}
use Rattle.m5_source_site.proofs.Begun.{frame_next}
use Rattle.m5_source_site.proofs.size.size_of_frames.Goals as goal

pub loop-index-preserved : goal.loop-index-preserved
loop-index-preserved c = omega (arith, frame_next c.args.frames.now c.loop-index.index (c.loop-index.index + 1) c.at.result.now (omega arith) c.at.ensures, c.loop-index.invariant, c.size_of_frame.ensures, c.saturating_add-total.ensures)
