-- The type ids so far are written.
use Rattle.std.proofs.Common.{◌≡◌, ◌++◌, map, take}
use Rattle.m5_message.specs.Spelling.{ids_bytes}
use Rattle.m5_marshal.specs.code.Keys.{marks, id_of}
use Rattle.m5_marshal.proofs.writing.put_ids.Given as goal

abbrev pub invariant-loop-key : goal.invariant-loop-key
invariant-loop-key l = l.out.items ≡ l.fn.out.items ++ ids_bytes (map id_of (take l.key-index (marks l.keys)))
