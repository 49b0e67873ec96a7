use Rattle.std.proofs.Common.{◌-◌, ◌≤◌, List}
use Rattle.std.specs.Vec.{vec_len}
use Rattle.m5_machine.specs.declared.step.Step.{Step}
use Rattle.m5_machine.specs.Labelled.{Labelled}
use Rattle.m5_machine.specs.code.Flattened.{IsLaid}
use Rattle.m5_js.proofs.reading.skip_labels.Given as goal

abbrev pub invariant-loop-starts : goal.invariant-loop-starts
invariant-loop-starts l = record {
  within : vec_len l.starts ≤ l.label;
  laid : (ss : List Step) (bs : List Labelled) → IsLaid l.fn.starts.items ss bs → IsLaid l.starts.items ss bs;
}

abbrev pub decreases-loop-starts : goal.decreases-loop-starts
decreases-loop-starts l = l.label - vec_len l.starts
