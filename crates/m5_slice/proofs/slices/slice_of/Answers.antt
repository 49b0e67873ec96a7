use Rattle.std.proofs.Common.{subst, sym, ap, ◌∙◌}
use Rattle.m5_flat.specs.Table.{Table, IsTable, blocks_of}
use Rattle.m5_slice.specs.Slicing.{cut}
use Rattle.m5_slice.proofs.Written.{written_parts, written_is, written_is_table}
use Rattle.m5_slice.proofs.slices.slice_of.Goals as goal

pub make-requires : goal.make-requires
make-requires c =
    subst IsTable
    (written_parts c.args.world c.table-table.result.now c.in_ok-primitives.primitives c.in_ok-types.types c.in_ok-steps.steps c.in_ok-labels.labels c.main.result c.finish.result (c.in_ok-types.ensures ∙ c.types.ensures) c.in_ok-steps.ensures c.in_ok-labels.ensures c.main.ensures c.finish.ensures)
    (written_is_table c.args.world c.table-table.result.now c.in_ok-primitives.primitives c.labels-labels.ensures.code c.in_ok-primitives.ensures)

pub returns : goal.returns
returns c =
    ap blocks_of (c.make-2.ensures ∙ c.make.ensures)
    ∙ ap blocks_of (sym (written_parts c.args.world c.table-table.result.now c.in_ok-primitives.primitives c.in_ok-types.types c.in_ok-steps.steps c.in_ok-labels.labels c.main.result c.finish.result (c.in_ok-types.ensures ∙ c.types.ensures) c.in_ok-steps.ensures c.in_ok-labels.ensures c.main.ensures c.finish.ensures))
    ∙ written_is c.args.world c.table-table.result.now c.in_ok-primitives.primitives c.labels-labels.ensures.code c.in_ok-primitives.ensures
    ∙ ap (λ (t : Table). cut c.args.world (blocks_of t)) c.table-table.ensures.table
