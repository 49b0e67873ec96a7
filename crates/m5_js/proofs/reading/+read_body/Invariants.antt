use Rattle.std.proofs.Common.{◌-◌, ◌≤◌, ℕ, List, length}
use Rattle.m5_machine.specs.declared.step.Step.{Step}
use Rattle.m5_js.specs.code.Bodies.{BodyHere, BodyRead}
use Rattle.m5_js.proofs.reading.+read_body.Given as goal

abbrev pub decreases-read_body : goal.decreases-read_body
decreases-read_body l = 1000 - l.level

abbrev pub invariant-loop-instruction : goal.invariant-loop-instruction
invariant-loop-instruction l = record {
  room : l.number ≤ 65534;
  found : (new : List ℕ) (after : List Step) → BodyRead l.level l.number l.input.rest.now l.steps.items new after → BodyRead l.level l.first l.fn.input.rest.now l.fn.steps.items new after;
  here : BodyHere l.level l.first l.fn.input.rest.now → BodyHere l.level l.number l.input.rest.now;
}

abbrev pub decreases-loop-instruction : goal.decreases-loop-instruction
decreases-loop-instruction l = length l.input.rest.now
