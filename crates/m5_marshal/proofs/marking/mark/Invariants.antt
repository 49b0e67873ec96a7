-- What is marked so far stands last.
use Rattle.std.proofs.Common.{◌-◌, length, reverse}
use Rattle.m5_message.specs.Packing.{marked}
use Rattle.m5_marshal.specs.code.Keys.{to_mark, marks}
use Rattle.m5_marshal.proofs.Walking.{Walk}
use Rattle.m5_marshal.proofs.marking.mark.Given as goal

abbrev pub invariant-loop-key : goal.invariant-loop-key
invariant-loop-key l =
    Walk l.dicts l.region.objects (to_mark l.fn.wanted) (marked l.dicts l.region.objects (length l.region.objects) (to_mark l.fn.wanted)) (to_mark l.todo) (marks (reverse l.done.items))

abbrev pub decreases-loop-key : goal.decreases-loop-key
decreases-loop-key l = length (marked l.dicts l.region.objects (length l.region.objects) (to_mark l.fn.wanted)) - length l.done.items
