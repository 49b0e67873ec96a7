use Rattle.std.proofs.Common.{◌≡◌, ◌+◌, ◌≤◌, ◌++◌, slice_range}
use Rattle.std.specs.Vec.{vec_len, vec_capacity}
use Rattle.m5_region.proofs.layout.put_again.Given as goal

abbrev pub invariant-loop-i : goal.invariant-loop-i
invariant-loop-i l = record {
  items : l.list.items ≡ l.fn.list.items ++ slice_range l.fn.list.items l.from (l.from + l.i);
  len : vec_len l.list ≡ vec_len l.fn.list + l.i;
  room : vec_capacity l.fn.list ≤ vec_capacity l.list;
}
