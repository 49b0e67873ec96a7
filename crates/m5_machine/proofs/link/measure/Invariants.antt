use Rattle.std.proofs.Common.{◌≡◌, ◌≤◌, length}
use Rattle.std.specs.Vec.{vec_capacity, vec_len}
use Rattle.m5_machine.specs.code.Shapes.{HasShapes}
use Rattle.m5_machine.proofs.link.measure.Given as goal

abbrev pub invariant-loop-done : goal.invariant-loop-done
invariant-loop-done l = record {
  count : vec_len l.shapes ≡ l.done;
  room : length l.steps ≤ vec_capacity l.shapes;
  shapes : HasShapes l.steps l.shapes.items;
}
