-- The contents so far are written.
use Rattle.std.proofs.Common.{◌≡◌, ◌++◌, map, take}
use Rattle.m5_message.specs.Packing.{sent}
use Rattle.m5_message.specs.Spelling.{contents_bytes}
use Rattle.m5_marshal.specs.code.Keys.{marks, id_of}
use Rattle.m5_marshal.proofs.writing.put_contents.Given as goal

abbrev pub invariant-loop-own : goal.invariant-loop-own
invariant-loop-own l =
    l.out.items ≡ l.fn.out.items ++ contents_bytes l.dicts 0 (map id_of (take l.own (marks l.keys))) (map (sent l.dicts l.region.objects (marks l.keys)) (take l.own (marks l.keys)))
