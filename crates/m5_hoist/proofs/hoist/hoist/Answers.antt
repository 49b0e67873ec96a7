use Rattle.std.proofs.Common.{subst, sym, ◌∙◌}
use Rattle.m5_flat.specs.Table.{Table, blocks_of}
use Rattle.m5_hoist.specs.Hoisting.{GoesOnAs}
use Rattle.m5_hoist.proofs.Same.{same_goes_on}
use Rattle.m5_hoist.proofs.hoist.hoist.Goals as goal

pub returns-clause-goes_on : goal.returns-clause-goes_on
returns-clause-goes_on c =
    subst (λ (t : Table). GoesOnAs (blocks_of c.args.closed.now) (blocks_of t)) (sym (c.make.ensures ∙ c.in_ok-copy.ensures ∙ c.table-table.ensures))
    (same_goes_on (blocks_of c.args.closed.now))
