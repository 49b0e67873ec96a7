use Rattle.std.proofs.Common.{◌≡◌, length, map, List, subst, sym, ap, ◌∙◌, arith}
use Rattle.std.specs.List.{AllZip}
use Rattle.m5_flat.specs.Table.{block_of}
use Rattle.m5_flat.specs.declared.label.Label.{Label}
use Rattle.m5_dictionary.specs.Dictionaries.{Entrance}
use Rattle.m5_dict.specs.Dictionaries.{IsEntranceOf}
use Rattle.m5_slice.proofs.Written.{same_count, label_more}
use Rattle.m5_slice.proofs.writing.labels.Goals as goal

pub bounds-entrances-index : goal.bounds-entrances-index
bounds-entrances-index c =
    let e : length c.labels-entrances.result.now ≡ length c.labels-all.result.now = ap length c.labels-entrances.ensures ∙ same_count c.args.table.now c.args.dicts.now.types c.args.dicts.now.labels c.args.table.now.labels c.requires.labels ∙ ap length (sym c.labels-all.ensures.labels) in
    omega (arith, e, c.loop-index-test.true)

pub loop-index-preserved : goal.loop-index-preserved
loop-index-preserved c =
    let z : AllZip (IsEntranceOf c.args.dicts.now.types) c.labels-entrances.result.now (map (block_of c.args.table.now) c.labels-all.result.now) =
    subst (λ (es : List Entrance). AllZip (IsEntranceOf c.args.dicts.now.types) es (map (block_of c.args.table.now) c.labels-all.result.now)) (sym c.labels-entrances.ensures)
    (subst (λ (ls : List Label). AllZip (IsEntranceOf c.args.dicts.now.types) c.args.dicts.now.labels (map (block_of c.args.table.now) ls)) (sym c.labels-all.ensures.labels) c.requires.labels) in
    c.in_ok-push.ensures.ok
    ∙ label_more c.args.table.now c.args.dicts.now.types c.args.world c.count-end.result c.labels-entrances.result.now c.labels-all.result.now c.loop-index.list c.loop-index.index c.index-entrances-index.result c.index-all-index.result c.stands_at.result c.in_ok-label.field-0
    c.index-entrances-index.is c.index-all-index.is z c.loop-index-test.true c.stands_at.ensures c.in_ok-label.ensures c.loop-index.invariant
