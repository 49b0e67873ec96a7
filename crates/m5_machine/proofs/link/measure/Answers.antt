use Rattle.std.proofs.Common.{arith}
use Rattle.m5_machine.proofs.Shapes.{one_more}
use Rattle.m5_machine.proofs.link.measure.Goals as goal

pub loop-done-preserved : goal.loop-done-preserved
loop-done-preserved c = record {
  count = omega arith;
  room = omega arith;
  shapes = one_more _ _ _ _ _ c.loop-done.invariant.shapes c.push_reserved.ensures.items (omega arith) c.in-Some.ensures;
}
