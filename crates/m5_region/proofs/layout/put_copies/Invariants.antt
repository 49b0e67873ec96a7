use Rattle.std.proofs.Common.{◌≡◌, ◌+◌, ◌≤◌, ◌++◌, replicate}
use Rattle.std.specs.Vec.{vec_len, vec_capacity}
use Rattle.m5_region.proofs.layout.put_copies.Given as goal

abbrev pub invariant-loop : goal.invariant-loop
invariant-loop l = record {
  items : l.list.items ≡ l.fn.list.items ++ replicate l.counter l.byte;
  len : vec_len l.list ≡ vec_len l.fn.list + l.counter;
  room : vec_capacity l.fn.list ≤ vec_capacity l.list;
}
