use Rattle.std.proofs.Common.{◌∙◌, arith}
use Rattle.m5_marshal.specs.code.Ids.{words}
use Rattle.m5_marshal.proofs.Gathered.{pass_next, pass_err, pass_done}
use Rattle.m5_marshal.proofs.contents.pass_contents.Goals as goal

pub loop-own-preserved : goal.loop-own-preserved
loop-own-preserved c = c.loop-own.invariant ∙ pass_next c.args.dicts.now c.args.format (words c.args.ids.now) c.loop-own.own c.args.until c.id_there-id.result c.loop-own.rest.now _ (omega arith) c.id_there-id.ensures c.in-Ok.ensures

pub returns-in-Err : goal.returns-in-Err
returns-in-Err c = c.loop-own.invariant ∙ pass_err c.args.dicts.now c.args.format (words c.args.ids.now) c.loop-own.own c.args.until c.id_there-id.result c.loop-own.rest.now c.in-Err.left (omega arith) c.id_there-id.ensures c.in-Err.ensures

pub returns : goal.returns
returns c = c.loop-own.invariant ∙ pass_done c.args.dicts.now c.args.format (words c.args.ids.now) c.loop-own.own c.args.until c.loop-own.rest.now (omega arith)
