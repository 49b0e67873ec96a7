use Rattle.flat_bench.proofs.Growing.{begun}
use Rattle.flat_bench.proofs.chains.begin.Goals as goal

pub returns-clause-chains : goal.returns-clause-chains
returns-clause-chains c =
    rw c.in_ok-push_end-2.ensures (rw c.in_ok-push_end.ensures (rw c.make.ensures (rw c.make-2.ensures (rw c.make-3.ensures (rw c.make-4.ensures (begun c.args.types.now c.unit-unit.result c.unit-unit.ensures))))))
