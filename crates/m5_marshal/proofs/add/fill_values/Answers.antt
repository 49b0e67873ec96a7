use Rattle.std.proofs.Common.{◌+◌, ◌-◌, ◌∙◌, refl, sym, ap, subst, arith, take, length, map, [], ◌∷◌, ◌++◌, length-append}
use Rattle.std.proofs.lemmas.List.{length-take}
use Rattle.m5_region.specs.Region.{Contents}
use Rattle.m5_marshal.specs.code.Opened.{others_of}
use Rattle.m5_marshal.specs.code.Ids.{words}
use Rattle.m5_marshal.specs.code.Adding.{set_fields}
use Rattle.m5_message.specs.Sharing.{shifted}
use Rattle.m5_marshal.proofs.Passing.{values_err, values_next, values_done}
use Rattle.m5_marshal.proofs.Filling.{value_placed, set_count, set_room, room_there, onto_none, onto_all, onto_more, fills_more, filled_is, filled_refers, onto_err, onto_end, HasRoom}
use Rattle.m5_marshal.proofs.add.fill_values.Goals as goal

pub loop-place-init : goal.loop-place-init
unfolding set_fields
loop-place-init c = record { got = []; count = refl; reads = sym (onto_none _); region = refl }

pub shifted-requires : goal.shifted-requires
shifted-requires c =
    let p = value_placed c.args.dicts.now c.args.format (words c.args.ids.now) c.args.own c.other_at-id.result (c.args.at.0 - c.args.own) (take c.args.at.0 c.args.region.now.objects) c.loop-place.rest.now _ c.requires.kinds c.in-Ok.ensures in
    omega (arith, p.within, length-take c.args.at.0 c.args.region.now.objects, c.requires.small)

pub fill-requires-clause-newest : goal.fill-requires-clause-newest
fill-requires-clause-newest c =
    let i = c.loop-place.invariant in
    c.requires.newest ∙ sym (ap (λ (x : Contents). length x.objects) i.region ∙ set_count c.args.region.now.objects c.args.at.0 c.args.from _)

pub fill-requires-clause-there : goal.fill-requires-clause-there
fill-requires-clause-there c =
    let i = c.loop-place.invariant in
    let room = set_room c.args.region.now.objects c.args.at.0 c.args.from _ (map (shifted (c.args.at.0 - c.args.own)) i.got) c.requires.room in
    let n = c.args.from + length (others_of c.args.others) in
    room_there c.loop-place.region.objects c.args.at.0 n (c.args.from + c.loop-place.place) (subst (λ (x : Contents). HasRoom x.objects c.args.at.0 n) (sym i.region) room) (omega arith)

pub fill-requires-clause-refers : goal.fill-requires-clause-refers
fill-requires-clause-refers c =
    let p = value_placed c.args.dicts.now c.args.format (words c.args.ids.now) c.args.own c.other_at-id.result (c.args.at.0 - c.args.own) (take c.args.at.0 c.args.region.now.objects) c.loop-place.rest.now _ c.requires.kinds c.in-Ok.ensures in
    let i = c.loop-place.invariant in
    filled_refers c.args.region.now c.loop-place.region c.args.at.0 c.args.from (c.args.at.0 - c.args.own) _ c.in-Ok.value c.shifted.result i.region c.shifted.ensures p.refers

pub returns-in-Err : goal.returns-in-Err
returns-in-Err c =
    let i = c.loop-place.invariant in (
      map (shifted (c.args.at.0 - c.args.own)) i.got,
      i.reads ∙ onto_err i.got _ c.in-Err.left (values_err c.args.dicts.now c.args.format (words c.args.ids.now) c.args.own (others_of c.args.others) c.loop-place.place c.other_at-id.result c.loop-place.rest.now c.in-Err.left c.other_at-id.ensures c.in-Err.ensures),
      i.region,
    )

pub loop-place-preserved : goal.loop-place-preserved
loop-place-preserved c =
    let i = c.loop-place.invariant in
    let v = c.in-Ok.value in
    record {
      got = i.got ++ v ∷ [];
      count = omega (arith, i.count, length-append i.got (v ∷ []));
      reads = i.reads
          ∙ ap (onto_all i.got) (values_next c.args.dicts.now c.args.format (words c.args.ids.now) c.args.own (others_of c.args.others) c.loop-place.place (c.loop-place.place + 1) c.other_at-id.result c.loop-place.rest.now _ (omega arith) c.other_at-id.ensures c.in-Ok.ensures)
          ∙ onto_more i.got v _;
      region = filled_is c.loop-place.region c.fill.new.self c.args.at.0 _ _ c.fill.ensures.objects c.fill.ensures.left ∙ fills_more c.args.region.now c.loop-place.region c.args.at.0 c.args.from (c.args.at.0 - c.args.own) c.loop-place.place i.got v c.shifted.result i.region i.count c.shifted.ensures;
    }

pub returns : goal.returns
returns c =
    let i = c.loop-place.invariant in (
      i.got,
      i.reads ∙ onto_end i.got _ c.loop-place.rest.now (values_done c.args.dicts.now c.args.format (words c.args.ids.now) c.args.own (others_of c.args.others) c.loop-place.place c.loop-place.rest.now (omega arith)),
      i.region,
    )
