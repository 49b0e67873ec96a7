use Rattle.std.proofs.Common.{◌<◌, length, sym, ap, ◌∙◌, arith}
use Rattle.std.specs.List.{list_all}
use Rattle.m5_replay.specs.Depth.{is_shallow_thread}
use Rattle.m5_replay.proofs.Depths.{one-more, not-of-one}
use Rattle.m5_replay.proofs.depth.are_shallow_threads.Goals as goal

pub returns-then-not-is_shallow_thread : goal.returns-then-not-is_shallow_thread
returns-then-not-is_shallow_thread c =
    let l : c.loop-index.index < length c.threads-threads.result.now = omega (arith, c.loop-index-test.true, c.count-index-end.ensures) in
    sym (ap (list_all is_shallow_thread) (sym c.threads-threads.ensures) ∙ not-of-one is_shallow_thread c.threads-threads.result.now c.loop-index.index c.at.result.now l c.at.ensures (sym c.is_shallow_thread.ensures ∙ c.if-not-is_shallow_thread.true))

pub loop-index-preserved : goal.loop-index-preserved
loop-index-preserved c =
    let l : c.loop-index.index < length c.threads-threads.result.now = omega (arith, c.loop-index-test.true, c.count-index-end.ensures) in
    one-more is_shallow_thread c.threads-threads.result.now c.loop-index.index c.at.result.now l c.at.ensures c.loop-index.invariant (sym c.is_shallow_thread.ensures ∙ c.if-not-is_shallow_thread.false)
