use Rattle.flat_bench.proofs.Programs.{is_table}
use Rattle.flat_bench.proofs.chains.closed.Goals as goal

pub make-table-requires : goal.make-table-requires
make-table-requires c = rw c.make.ensures (is_table c.in_ok-rows.rows c.in_ok-built.built c.in_ok-built.ensures.chains)
