use Rattle.std.proofs.Common.{◌<◌, length, sym, ap, ◌∙◌, arith}
use Rattle.std.specs.List.{list_all}
use Rattle.m5_replay.specs.Depth.{is_shallow_frame}
use Rattle.m5_replay.proofs.Depths.{one-more, not-of-one}
use Rattle.m5_replay.proofs.depth.are_shallow_frames.Goals as goal

pub returns-then-not-is_shallow_frame : goal.returns-then-not-is_shallow_frame
returns-then-not-is_shallow_frame c =
    let l : c.loop-index.index < length c.frames-frames.result.now = omega (arith, c.loop-index-test.true, c.count-index-end.ensures) in
    sym (ap (list_all is_shallow_frame) (sym c.frames-frames.ensures) ∙ not-of-one is_shallow_frame c.frames-frames.result.now c.loop-index.index c.at.result.now l c.at.ensures (sym c.is_shallow_frame.ensures ∙ c.if-not-is_shallow_frame.true))

pub loop-index-preserved : goal.loop-index-preserved
loop-index-preserved c =
    let l : c.loop-index.index < length c.frames-frames.result.now = omega (arith, c.loop-index-test.true, c.count-index-end.ensures) in
    one-more is_shallow_frame c.frames-frames.result.now c.loop-index.index c.at.result.now l c.at.ensures c.loop-index.invariant (sym c.is_shallow_frame.ensures ∙ c.if-not-is_shallow_frame.false)
