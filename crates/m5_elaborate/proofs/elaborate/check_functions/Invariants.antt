use Rattle.std.proofs.Common.{◌≡◌, take, drop}
use Rattle.m5_terms.specs.Table.{entries}
use Rattle.m5_elaborate.specs.Checked.{elaborated, rest_elaborated}
use Rattle.m5_elaborate.proofs.elaborate.check_functions.Given as goal

abbrev pub invariant-loop-index : goal.invariant-loop-index
invariant-loop-index l = record {
  names : entries l.names ≡ entries l.initial.names;
  so_far : elaborated l.fn.raw ≡ rest_elaborated (take l.index l.items) (drop l.index l.items) l.fn.raw;
}
