use Rattle.std.proofs.Common.{drop}
use Rattle.m5_marshal.specs.code.Opened.{others_of}
use Rattle.m5_message.specs.Reading.{values_at}
use Rattle.m5_marshal.specs.code.Ids.{words}
use Rattle.m5_marshal.proofs.Filling.{Filling}
use Rattle.m5_marshal.proofs.add.fill_values.Given as goal

abbrev pub invariant-loop-place : goal.invariant-loop-place
invariant-loop-place l =
    Filling l.fn.region l.region l.at.0 l.from l.base l.place
    (values_at l.dicts l.format (words l.ids) l.own (others_of l.others) l.bytes)
    (values_at l.dicts l.format (words l.ids) l.own (drop l.place (others_of l.others)) l.rest)
