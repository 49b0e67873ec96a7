use Rattle.std.proofs.Common.{◌≡◌, ◌+◌, ◌∙◌, ◌++◌, suc, ℕ, length, take, sym, ap, append_assoc, arith, List}
use Rattle.m5_marshal.specs.code.Opened.{others_of}
use Rattle.m5_marshal.specs.code.Keys.{marks, sent_bytes, fields_bytes, values_behind}
use Rattle.m5_marshal.proofs.Fields.{field_there, field_behind}
use Rattle.m5_marshal.proofs.Written.{sent_there, fields_none, fields_next}
use Rattle.m5_marshal.proofs.writing.put_fields.Goals as goal

pub loop-place-init : goal.loop-place-init
loop-place-init c = fields_none c.args.dicts.now (marks c.args.keys.now) c.args.own (others_of c.args.others) (values_behind c.args.region.now.objects c.args.at.0 c.args.first) c.args.out.now.items

pub field-value-requires : goal.field-value-requires
field-value-requires c = field_there c.args.region.now.objects c.args.at.0 (c.args.first + length (others_of c.args.others)) (c.args.first + c.loop-place.place) c.requires.there (omega arith)

pub put_value-requires-clause-sent : goal.put_value-requires-clause-sent
put_value-requires-clause-sent c =
    sent_there c.args.dicts.now (marks c.args.keys.now) (others_of c.args.others) (values_behind c.args.region.now.objects c.args.at.0 c.args.first) c.loop-place.place c.other_at-id.result c.field-value.result c.requires.sent c.other_at-id.ensures
    (field_behind c.args.region.now.objects c.args.at.0 c.args.first c.loop-place.place c.field-value.result c.field-value.ensures.is)

pub loop-place-preserved : goal.loop-place-preserved
loop-place-preserved c =
    let d = c.args.dicts.now in
    let ps = marks c.args.keys.now in
    let ids = others_of c.args.others in
    let vs = values_behind c.args.region.now.objects c.args.at.0 c.args.first in
    let old = c.args.out.now.items in
    let one = sent_bytes d ps c.args.own c.other_at-id.result c.field-value.result in
    let there = field_behind c.args.region.now.objects c.args.at.0 c.args.first c.loop-place.place c.field-value.result c.field-value.ensures.is in
    let next : suc c.loop-place.place ≡ c.loop-place.place + 1 = omega arith in
    c.in_ok-put_value.ensures
    ∙ ap (λ (x : List ℕ). x ++ one) c.loop-place.invariant
    ∙ append_assoc old (fields_bytes d ps c.args.own (take c.loop-place.place ids) vs) one
    ∙ ap (λ (x : List ℕ). old ++ x) (sym (fields_next d ps c.args.own ids vs c.loop-place.place c.other_at-id.result c.field-value.result c.other_at-id.ensures there))
    ∙ ap (λ (n : ℕ). old ++ fields_bytes d ps c.args.own (take n ids) vs) next
