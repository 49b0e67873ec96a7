-- The fields so far are written.
use Rattle.std.proofs.Common.{◌≡◌, ◌++◌, take}
use Rattle.m5_marshal.specs.code.Opened.{others_of}
use Rattle.m5_marshal.specs.code.Keys.{marks, fields_bytes, values_behind}
use Rattle.m5_marshal.proofs.writing.put_fields.Given as goal

abbrev pub invariant-loop-place : goal.invariant-loop-place
invariant-loop-place l =
    l.out.items ≡ l.fn.out.items ++ fields_bytes l.dicts (marks l.keys) l.own (take l.place (others_of l.others)) (values_behind l.region.objects l.at.0 l.first)
