-- Some were tested, and what they reach was tested or is to be tested.
use Rattle.m5_marshal.specs.code.Keys.{to_mark}
use Rattle.m5_marshal.proofs.Testing.{Testing, top}
use Rattle.m5_marshal.proofs.premise.are_fit.Given as goal

abbrev pub invariant-loop-key : goal.invariant-loop-key
invariant-loop-key l = Testing l.dicts l.region.objects (to_mark l.fn.wanted) (to_mark l.todo) l.count

abbrev pub decreases-loop-key : goal.decreases-loop-key
decreases-loop-key l = top (to_mark l.todo)
