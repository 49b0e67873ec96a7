use Rattle.std.proofs.Common.{◌≡◌, ◌≤◌, length, map, take, subst, sym, List, arith}
use Rattle.std.specs.List.{AllZip}
use Rattle.m5_flat.specs.Table.{block_of, Table}
use Rattle.m5_flat.specs.declared.label.Label.{Label}
use Rattle.m5_dict.specs.Dictionaries.{IsEntranceOf}
use Rattle.m5_dict.proofs.Growing.{know_on}
use Rattle.m5_dict.proofs.Entering.{entered_next, entered_all, are_dictionaries}
use Rattle.m5_dict.proofs.dictionaries.dictionaries.Goals as goal

pub loop-label-preserved : goal.loop-label-preserved
loop-label-preserved c = (
  rw c.in_ok-push.ensures.items (entered_next (block_of c.table-table.result.now) _ _ c.loop-label.labels.items c.in_ok-entrance.field-0 c.labels-label-items.result.now c.loop-label.label-index c.label-item.result c.label-item.is c.loop-label.invariant.0 c.in_ok-entrance.ensures.grows c.loop-label-test.true c.in_ok-entrance.ensures.is),
  know_on _ _ _ _ c.in_ok-entrance.ensures.grows c.loop-label.invariant.1,
)

pub make-requires : goal.make-requires
make-requires c =
    let lines : c.in_ok-lines.field-0.items ≡ c.loop-label.targets = c.in_ok-lines.ensures.lines in
    let labels : c.labels-label-items.result.now ≡ c.table-table.result.now.labels = c.labels-label-items.ensures.labels in
    rw lines (are_dictionaries c.table-table.result.now c.loop-label.targets c.loop-label.labels.items c.labels-label-items.ensures.code (subst (λ (t : Table). length t.labels ≤ 65535) (sym c.table-table.ensures.table) c.table-table.ensures.few) c.lines.ensures.table
    (entered_all c.table-table.result.now c.loop-label.targets c.loop-label.labels.items c.loop-label.label-index (subst (λ (ls : List Label). AllZip (IsEntranceOf c.loop-label.targets) c.loop-label.labels.items (map (block_of c.table-table.result.now) (take c.loop-label.label-index ls))) labels c.loop-label.invariant.0) (subst (λ (ls : List Label). length ls ≤ c.loop-label.label-index) labels (omega (arith, c.loop-label-test.false)))))
