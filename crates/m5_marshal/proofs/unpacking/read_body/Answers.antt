use Rattle.std.proofs.Common.{sym, subst, Result, ℕ}
use Rattle.m5_message.specs.Message.{Message}
use Rattle.m5_marshal.specs.code.Ids.{words}
use Rattle.m5_marshal.specs.code.Tail.{ReadsWhole}
use Rattle.m5_marshal.proofs.Wholes.{ids_count, body_no_number, body_no_ids, body_objects, nothing_added}
use Rattle.m5_marshal.proofs.unpacking.read_body.Goals as goal

pub read_objects-requires : goal.read_objects-requires
read_objects-requires c = sym (ids_count c.args.dicts.now c.in-Some.count c.in-Some.rest.now (words c.in-Ok.ids.now, c.in-Ok.contents.now) c.in-Ok.ensures)

pub returns-in-None : goal.returns-in-None
returns-in-None c = (body_no_number c.args.dicts.now c.args.world c.args.format c.args.bytes.now c.in-None.ensures, nothing_added c.args.region.now)

pub returns-in-Err : goal.returns-in-Err
returns-in-Err c = (body_no_ids c.args.dicts.now c.args.world c.args.format c.args.bytes.now c.in-Some.count c.in-Some.rest.now c.in-Err.left c.in-Some.ensures c.in-Err.ensures, nothing_added c.args.region.now)

pub returns-in-Ok : goal.returns-in-Ok
returns-in-Ok c =
    let e = body_objects c.args.dicts.now c.args.world c.args.format c.args.bytes.now c.in-Some.count c.in-Some.rest.now (words c.in-Ok.ids.now) c.in-Ok.contents.now c.in-Some.ensures c.in-Ok.ensures in
    subst (λ (r : Result Message ℕ). ReadsWhole c.args.dicts.now c.args.world c.args.region.now r c.read_objects.result c.read_objects.new.region) (sym e) c.read_objects.ensures
