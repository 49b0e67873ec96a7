use Rattle.std.proofs.Common.{◌+◌, length, sym, subst, arith, List}
use Rattle.m5_message.specs.Packing.{Reached}
use Rattle.m5_marshal.specs.code.Opened.{others_of}
use Rattle.m5_marshal.specs.code.Keys.{to_mark, HasMore, values_behind}
use Rattle.m5_marshal.proofs.KeySets.{more_none, more_more}
use Rattle.m5_marshal.proofs.Fields.{field_there, field_behind, reach_none, reach_next}
use Rattle.m5_marshal.proofs.marking.want_fields.Goals as goal

pub loop-place-init : goal.loop-place-init
loop-place-init c =
    let vs = values_behind c.args.region.now.objects c.args.at.0 c.args.first in
    subst (λ (x : List Reached). HasMore (to_mark c.args.todo.now) x (to_mark c.args.todo.now)) (sym (reach_none c.args.dicts.now (others_of c.args.others) vs)) (more_none (to_mark c.args.todo.now))

pub field-value-requires : goal.field-value-requires
field-value-requires c = field_there c.args.region.now.objects c.args.at.0 (c.args.first + length (others_of c.args.others)) (c.args.first + c.loop-place.place) c.requires.there (omega arith)

pub loop-place-preserved : goal.loop-place-preserved
loop-place-preserved c =
    let d = c.args.dicts.now in
    let ids = others_of c.args.others in
    let vs = values_behind c.args.region.now.objects c.args.at.0 c.args.first in
    let next = reach_next d ids vs c.loop-place.place (c.loop-place.place + 1) c.other_at-id.result c.field-value.result (omega arith) c.other_at-id.ensures (field_behind c.args.region.now.objects c.args.at.0 c.args.first c.loop-place.place c.field-value.result c.field-value.ensures.is) in
    subst (λ (x : List Reached). HasMore (to_mark c.args.todo.now) x (to_mark c.want.new.todo)) (sym next) (more_more (to_mark c.args.todo.now) (to_mark c.loop-place.todo) (to_mark c.want.new.todo) _ _ c.loop-place.invariant c.in_ok-want.ensures)
