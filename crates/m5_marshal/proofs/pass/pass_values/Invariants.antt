use Rattle.std.proofs.Common.{◌≡◌, drop}
use Rattle.m5_marshal.specs.code.Opened.{others_of}
use Rattle.m5_message.specs.Reading.{values_at}
use Rattle.m5_marshal.specs.code.Ids.{words}
use Rattle.m5_marshal.specs.code.Adding.{rest_of}
use Rattle.m5_marshal.proofs.pass.pass_values.Given as goal

abbrev pub invariant-loop-place : goal.invariant-loop-place
invariant-loop-place l =
    rest_of (values_at l.dicts l.format (words l.ids) l.own (others_of l.others) l.bytes) ≡ rest_of (values_at l.dicts l.format (words l.ids) l.own (drop l.place (others_of l.others)) l.rest)
