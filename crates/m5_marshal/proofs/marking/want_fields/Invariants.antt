-- What is to be marked has what the fields so far reach.
use Rattle.std.proofs.Common.{take}
use Rattle.m5_message.specs.Packing.{values_reach}
use Rattle.m5_marshal.specs.code.Opened.{others_of}
use Rattle.m5_marshal.specs.code.Keys.{to_mark, HasMore, values_behind}
use Rattle.m5_marshal.proofs.marking.want_fields.Given as goal

abbrev pub invariant-loop-place : goal.invariant-loop-place
invariant-loop-place l =
    HasMore (to_mark l.fn.todo) (values_reach l.dicts (take l.place (others_of l.others)) (values_behind l.region.objects l.at.0 l.first)) (to_mark l.todo)
