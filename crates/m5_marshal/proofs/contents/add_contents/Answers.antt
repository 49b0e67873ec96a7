use Rattle.std.proofs.Common.{◌≡◌, ◌-◌, subst, arith, length, ℕ, true, false}
use Rattle.m5_message.specs.Reading.{content_at}
use Rattle.m5_marshal.specs.code.Ids.{words}
use Rattle.m5_marshal.specs.code.Adding.{Kinds}
use Rattle.m5_marshal.proofs.Gathered.{gather_none, gather_more, gather_all, gather_err, gather_extends, gather_others, span_err, added_when}
use Rattle.m5_marshal.proofs.contents.add_contents.Goals as goal

pub loop-own-init : goal.loop-own-init
loop-own-init c = gather_none c.args.dicts.now c.args.format (words c.args.ids.now) c.args.count c.args.bytes.now c.args.region.now c.requires

pub returns-in-Err : goal.returns-in-Err
returns-in-Err c =
    let e = c.in-Err.ensures in (
      gather_err c.args.dicts.now c.args.format (words c.args.ids.now) c.args.count c.args.bytes.now c.args.region.now c.loop-own.region c.loop-own.own c.loop-own.rest.now c.in-Err.left c.loop-own.invariant (span_err c.args.dicts.now c.args.format (words c.args.ids.now) c.loop-own.own c.args.count c.id_there-id.result c.loop-own.rest.now c.in-Err.left (omega arith) c.id_there-id.ensures e.1),
      gather_extends c.args.dicts.now c.args.format (words c.args.ids.now) c.args.count c.args.bytes.now c.args.region.now c.loop-own.region c.add_content.new.region c.loop-own.own c.loop-own.rest.now e.0 c.loop-own.invariant e.2 e.3,
    )

pub returns-in-Ok-default-false : goal.returns-in-Ok-default-false
returns-in-Ok-default-false c =
    let a = c.in-Ok-default-false in
    let mid = c.loop-own.region in
    let e = added_when a.after (λ x. x.now) mid (length mid.objects - c.loop-own.own) (content_at c.args.dicts.now c.args.format (words c.args.ids.now) c.loop-own.own c.id_there-id.result c.loop-own.rest.now) a.field-0-1 false c.add_content.new.region a.field-0-1-test a.ensures in
    gather_others (λ x. x.now) c.args.dicts.now c.args.format (words c.args.ids.now) c.args.count c.args.bytes.now c.args.region.now mid c.add_content.new.region c.loop-own.own c.id_there-id.result c.loop-own.rest.now a.after.now e.0 c.pass_others.result c.loop-own.invariant (omega arith) c.id_there-id.ensures e.1 e.2 e.3 c.pass_others.ensures.is c.pass_others.ensures.full

pub loop-own-preserved : goal.loop-own-preserved
loop-own-preserved c =
    let a = c.in-Ok-default-true in
    let mid = c.loop-own.region in
    let e = added_when a.after (λ x. x.now) mid (length mid.objects - c.loop-own.own) (content_at c.args.dicts.now c.args.format (words c.args.ids.now) c.loop-own.own c.id_there-id.result c.loop-own.rest.now) a.field-0-1 true c.add_content.new.region a.field-0-1-test a.ensures in
    gather_more c.args.dicts.now c.args.format (words c.args.ids.now) c.args.count c.args.bytes.now c.args.region.now mid c.add_content.new.region c.loop-own.own c.id_there-id.result c.loop-own.rest.now a.after.now e.0 c.loop-own.invariant (omega arith) c.id_there-id.ensures e.1 e.2 e.3

pub returns : goal.returns
returns c =
    let g = c.loop-own.invariant in
    let n : c.loop-own.own ≡ length (words c.args.ids.now) = omega (arith, c.requires) in (
      g.got,
      gather_all c.args.dicts.now c.args.format (words c.args.ids.now) c.args.count c.args.bytes.now c.args.region.now c.loop-own.region c.loop-own.own c.loop-own.rest.now g (omega arith),
      g.objects,
      g.left,
      subst (λ (k : ℕ). Kinds c.args.dicts.now (words c.args.ids.now) (length c.args.region.now.objects) k c.loop-own.region.objects) n g.kinds,
    )
