use Rattle.std.proofs.Common.{ℕ, ◌+◌, ◌-◌, sym, ap, subst, arith, length, List, ◌++◌, length-append}
use Rattle.std.proofs.lemmas.List.{length-replicate}
use Rattle.m5_region.specs.declared.value.Value.TheVariants as values
use Rattle.m5_region.specs.Region.{Object, ArrayOf}
use Rattle.m5_marshal.specs.code.Opened.{others_of}
use Rattle.m5_message.specs.Reading.{values_at}
use Rattle.m5_marshal.specs.code.Ids.{words}
use Rattle.m5_marshal.specs.code.Adding.{array_at, first_of, Kinds}
use Rattle.m5_marshal.proofs.Arrays.{newest, array_added, array_err, rest_ok, values_count, newest_count, newest_room, newest_front}
use Rattle.m5_marshal.proofs.add.add_array.Goals as goal

pub fill_values-requires-clause-newest : goal.fill_values-requires-clause-newest
fill_values-requires-clause-newest c =
    let s = c.in-Some.ensures in
    newest_count c.args.region.now c.fill_first-from.new.region c.in-Some.at.0 _ (first_of c.args.first) (newest c.args.region.now c.add_nulls.new.self c.fill_first-from.new.region c.in-Some.at.0 (c.count_first.result + c.count_of.result) (first_of c.args.first) s.0 s.1 s.2 c.fill_first-from.ensures.objects_with_field)

pub fill_values-requires-clause-room : goal.fill_values-requires-clause-room
fill_values-requires-clause-room c =
    let s = c.in-Some.ensures in
    newest_room c.args.region.now c.fill_first-from.new.region c.in-Some.at.0 (c.count_first.result + c.count_of.result) (c.fill_first-from.result + length (others_of c.args.others)) (first_of c.args.first) (newest c.args.region.now c.add_nulls.new.self c.fill_first-from.new.region c.in-Some.at.0 (c.count_first.result + c.count_of.result) (first_of c.args.first) s.0 s.1 s.2 c.fill_first-from.ensures.objects_with_field) (omega arith)

pub fill_values-requires-clause-kinds : goal.fill_values-requires-clause-kinds
fill_values-requires-clause-kinds c =
    let s = c.in-Some.ensures in
    let front = newest_front c.args.region.now c.fill_first-from.new.region c.in-Some.at.0 (c.count_first.result + c.count_of.result) (first_of c.args.first) (newest c.args.region.now c.add_nulls.new.self c.fill_first-from.new.region c.in-Some.at.0 (c.count_first.result + c.count_of.result) (first_of c.args.first) s.0 s.1 s.2 c.fill_first-from.ensures.objects_with_field) in
    subst (λ (x : List Object). Kinds c.args.dicts.now (words c.args.ids.now) (c.in-Some.at.0 - c.args.own) c.args.own x) (sym front)
    (subst (λ (n : ℕ). Kinds c.args.dicts.now (words c.args.ids.now) (n - c.args.own) c.args.own c.args.region.now.objects) (sym s.0) c.requires.kinds)

pub returns-in-Ok : goal.returns-in-Ok
returns-in-Ok c =
    let first = first_of c.args.first in
    let r = rest_ok (values_at c.args.dicts.now c.args.format (words c.args.ids.now) c.args.own (others_of c.args.others) c.args.bytes.now) c.in-Ok.rest.now c.in-Ok.ensures in
    let n = values_count c.args.dicts.now c.args.format (words c.args.ids.now) c.args.own (others_of c.args.others) c.args.bytes.now (r.0, c.in-Ok.rest.now) r.1 in
    let s = c.in-None.ensures in
    (ArrayOf (first ++ r.0), ap (array_at first) r.1, omega (arith, s.0, n, length-append first r.0, c.count_first.ensures, c.count_of.ensures, length-replicate (c.count_first.result + c.count_of.result) values.Null), s.1)

pub returns-in-Ok-fill_values : goal.returns-in-Ok-fill_values
returns-in-Ok-fill_values c =
    let first = first_of c.args.first in
    let s = c.in-Some.ensures in
    let e = c.in-Ok-fill_values.ensures in
    let n = values_count c.args.dicts.now c.args.format (words c.args.ids.now) c.args.own (others_of c.args.others) c.args.bytes.now (e.0, c.in-Ok-fill_values.rest.now) e.1 in
    let new = newest c.args.region.now c.add_nulls.new.self c.fill_first-from.new.region c.in-Some.at.0 (c.count_first.result + c.count_of.result) first s.0 s.1 s.2 c.fill_first-from.ensures.objects_with_field in
    let r = array_added c.args.region.now c.fill_first-from.new.region c.fill_values.new.region c.in-Some.at.0 c.args.own (c.count_first.result + c.count_of.result) c.fill_first-from.result first e.0 new c.fill_first-from.ensures.from (omega (arith, n)) e.2 c.requires.still in
    (ArrayOf (first ++ e.0), ap (array_at first) e.1, r.0, r.1)

pub returns-in-Err-fill_values : goal.returns-in-Err-fill_values
returns-in-Err-fill_values c =
    let first = first_of c.args.first in
    let s = c.in-Some.ensures in
    let e = c.in-Err-fill_values.ensures in
    let new = newest c.args.region.now c.add_nulls.new.self c.fill_first-from.new.region c.in-Some.at.0 (c.count_first.result + c.count_of.result) first s.0 s.1 s.2 c.fill_first-from.ensures.objects_with_field in
    let r = array_err c.args.region.now c.fill_first-from.new.region c.fill_values.new.region c.in-Some.at.0 (c.count_first.result + c.count_of.result) c.fill_first-from.result first e.0 new c.fill_first-from.ensures.from e.2 in
    (r.0, ap (array_at first) e.1, r.1, r.2)
