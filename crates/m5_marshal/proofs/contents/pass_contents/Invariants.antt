use Rattle.std.proofs.Common.{◌≡◌}
use Rattle.m5_message.specs.Reading.{contents_at}
use Rattle.m5_marshal.specs.code.Ids.{words}
use Rattle.m5_marshal.specs.code.Adding.{rest_of, span}
use Rattle.m5_marshal.proofs.contents.pass_contents.Given as goal

abbrev pub invariant-loop-own : goal.invariant-loop-own
invariant-loop-own l =
    rest_of (contents_at l.dicts l.format (words l.ids) l.from (span l.from l.until (words l.ids)) l.bytes)
    ≡ rest_of (contents_at l.dicts l.format (words l.ids) l.own (span l.own l.until (words l.ids)) l.rest)
