use Rattle.std.proofs.Common.{◌≤◌, ◌+◌, subst, arith, length, ℕ, true, false, sym}
use Rattle.m5_message.specs.Reading.{contents_at}
use Rattle.m5_message.specs.Packing.{target}
use Rattle.m5_message.specs.Sharing.{shifted}
use Rattle.m5_marshal.specs.Unpack.{AreThere, StandsAt}
use Rattle.m5_marshal.specs.code.Ids.{words}
use Rattle.m5_marshal.specs.code.Adding.{Kinds}
use Rattle.m5_marshal.proofs.Gathered.{all_when}
use Rattle.m5_marshal.proofs.Rooted.{tail_facts}
use Rattle.m5_marshal.proofs.Behind.{enters_behind}
use Rattle.m5_marshal.proofs.Wholes.{objects_err, objects_tail_err, objects_ok, added_extends, ready_is}
use Rattle.m5_marshal.proofs.unpacking.read_objects.Goals as goal

pub ready_behind-requires-clause-root : goal.ready_behind-requires-clause-root
ready_behind-requires-clause-root c =
    let a = c.in-Ok-default-true in
    let e = all_when a.rest (λ x. x.now) c.args.dicts.now (words c.args.ids.now) c.args.region.now (contents_at c.args.dicts.now c.args.format (words c.args.ids.now) 0 (words c.args.ids.now) c.args.contents.now) a.field-0-1 true c.add_contents.new.region a.field-0-1-test a.ensures in
    let t = tail_facts c.args.dicts.now c.args.world c.args.format c.args.count (words c.args.ids.now) e.0 a.rest.now (c.in-Ok.root, c.in-Ok.argument) (c.in-Ok.ensures e.0 e.1) in
    omega (arith, t.root, e.4.count, c.requires, c.count-base.ensures, c.count.ensures)

pub ready_behind-requires-clause-argument : goal.ready_behind-requires-clause-argument
ready_behind-requires-clause-argument c =
    let a = c.in-Ok-default-true in
    let e = all_when a.rest (λ x. x.now) c.args.dicts.now (words c.args.ids.now) c.args.region.now (contents_at c.args.dicts.now c.args.format (words c.args.ids.now) 0 (words c.args.ids.now) c.args.contents.now) a.field-0-1 true c.add_contents.new.region a.field-0-1-test a.ensures in
    let t = tail_facts c.args.dicts.now c.args.world c.args.format c.args.count (words c.args.ids.now) e.0 a.rest.now (c.in-Ok.root, c.in-Ok.argument) (c.in-Ok.ensures e.0 e.1) in
    let kinds = subst (λ (n : ℕ). Kinds c.args.dicts.now (words c.args.ids.now) (length c.args.region.now.objects) n c.add_contents.new.region.objects) (sym c.requires) e.4 in
    let within : length c.args.region.now.objects + target c.in-Ok.argument ≤ length c.add_contents.new.region.objects = (t.argument (length c.args.region.now.objects) c.add_contents.new.region.objects kinds).within in
    omega (arith, within, c.count-base.ensures, c.count.ensures)

pub returns-in-Err : goal.returns-in-Err
returns-in-Err c = (objects_err c.args.dicts.now c.args.world c.args.format c.args.count (words c.args.ids.now) c.args.contents.now c.in-Err.left c.in-Err.ensures.0, c.in-Err.ensures.1)

pub returns-in-Err-read_tail : goal.returns-in-Err-read_tail
returns-in-Err-read_tail c =
    let a = c.in-Ok-default-true in
    let e = all_when a.rest (λ x. x.now) c.args.dicts.now (words c.args.ids.now) c.args.region.now (contents_at c.args.dicts.now c.args.format (words c.args.ids.now) 0 (words c.args.ids.now) c.args.contents.now) a.field-0-1 true c.add_contents.new.region a.field-0-1-test a.ensures in
    (objects_tail_err c.args.dicts.now c.args.world c.args.format c.args.count (words c.args.ids.now) c.args.contents.now e.0 a.rest.now c.in-Err-read_tail.left e.1 (c.in-Err-read_tail.ensures e.0 e.1), added_extends c.args.region.now c.add_contents.new.region e.0 e.2 e.3)

pub returns-in-Ok : goal.returns-in-Ok
returns-in-Ok c =
    let d = c.args.dicts.now in
    let ids = words c.args.ids.now in
    let base = length c.args.region.now.objects in
    let os = c.add_contents.new.region.objects in
    let a = c.in-Ok-default-true in
    let e = all_when a.rest (λ x. x.now) d ids c.args.region.now (contents_at d c.args.format ids 0 ids c.args.contents.now) a.field-0-1 true c.add_contents.new.region a.field-0-1-test a.ensures in
    let t = tail_facts d c.args.world c.args.format c.args.count ids e.0 a.rest.now (c.in-Ok.root, c.in-Ok.argument) (c.in-Ok.ensures e.0 e.1) in
    let kinds = subst (λ (n : ℕ). Kinds d ids base n os) (sym c.requires) e.4 in
    let ready = ready_is c.count-base.result base c.in-Ok.root c.in-Ok.argument c.ready_behind.result c.count-base.ensures c.ready_behind.ensures.code c.ready_behind.ensures.argument in
    let enters = enters_behind d c.args.world c.args.region.now.objects e.0 os c.in-Ok.root (shifted base c.in-Ok.argument) e.2 t.stands (t.argument base os kinds).refers in (
      record { ids = ids; objects = e.0; root = c.in-Ok.root; argument = c.in-Ok.argument },
      objects_ok d c.args.world c.args.format c.args.count ids c.args.contents.now e.0 a.rest.now c.in-Ok.root c.in-Ok.argument e.1 (c.in-Ok.ensures e.0 e.1),
      record { objects = e.2; left = e.3 },
      ready,
      subst (AreThere os) (sym ready) enters.0,
      subst (StandsAt d c.args.world os) (sym ready) enters.1,
    )

pub returns-in-Err-read_tail-2 : goal.returns-in-Err-read_tail-2
returns-in-Err-read_tail-2 c =
    let a = c.in-Ok-default-false in
    let e = all_when a.rest (λ x. x.now) c.args.dicts.now (words c.args.ids.now) c.args.region.now (contents_at c.args.dicts.now c.args.format (words c.args.ids.now) 0 (words c.args.ids.now) c.args.contents.now) a.field-0-1 false c.add_contents.new.region a.field-0-1-test a.ensures in
    (objects_tail_err c.args.dicts.now c.args.world c.args.format c.args.count (words c.args.ids.now) c.args.contents.now e.0 a.rest.now c.in-Err-read_tail-2.left e.1 (c.in-Err-read_tail-2.ensures e.0 e.1), e.3)

pub returns-in-Ok-read_tail : goal.returns-in-Ok-read_tail
returns-in-Ok-read_tail c =
    let a = c.in-Ok-default-false in
    let e = all_when a.rest (λ x. x.now) c.args.dicts.now (words c.args.ids.now) c.args.region.now (contents_at c.args.dicts.now c.args.format (words c.args.ids.now) 0 (words c.args.ids.now) c.args.contents.now) a.field-0-1 false c.add_contents.new.region a.field-0-1-test a.ensures in (
      record { ids = words c.args.ids.now; objects = e.0; root = c.in-Ok-read_tail.field-0.0; argument = c.in-Ok-read_tail.field-0.1 },
      objects_ok c.args.dicts.now c.args.world c.args.format c.args.count (words c.args.ids.now) c.args.contents.now e.0 a.rest.now c.in-Ok-read_tail.field-0.0 c.in-Ok-read_tail.field-0.1 e.1 (c.in-Ok-read_tail.ensures e.0 e.1),
      e.2,
      e.3,
    )
