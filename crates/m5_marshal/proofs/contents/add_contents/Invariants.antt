use Rattle.m5_marshal.specs.code.Ids.{words}
use Rattle.m5_marshal.proofs.Gathered.{Gathering}
use Rattle.m5_marshal.proofs.contents.add_contents.Given as goal

abbrev pub invariant-loop-own : goal.invariant-loop-own
invariant-loop-own l = Gathering l.dicts l.format (words l.ids) l.count l.bytes l.fn.region l.region l.own l.rest
