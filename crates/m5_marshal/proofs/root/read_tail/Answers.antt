use Rattle.m5_marshal.specs.code.Ids.{words}
use Rattle.m5_marshal.proofs.Rooted.{tail_no_root, tail_no_value, tail_ended, tail_more}
use Rattle.m5_marshal.proofs.root.read_tail.Goals as goal

pub returns-in-None : goal.returns-in-None
returns-in-None c = λ os e. tail_no_root c.args.dicts.now c.args.world c.args.format c.args.count (words c.args.ids.now) os c.args.bytes.now (c.in-None.ensures os c.args.bytes.now e)

pub returns-in-Err : goal.returns-in-Err
returns-in-Err c = λ os e. tail_no_value c.args.dicts.now c.args.world c.args.format c.args.count (words c.args.ids.now) os c.args.bytes.now c.in-Some.root c.in-Some.argument c.in-Err.left c.in-Some.rest.now (c.in-Some.ensures os c.args.bytes.now e) c.in-Err.ensures

pub returns-then-is_empty : goal.returns-then-is_empty
returns-then-is_empty c = λ os e. tail_ended c.args.dicts.now c.args.world c.args.format c.args.count (words c.args.ids.now) os c.args.bytes.now c.in-Some.root c.in-Some.argument c.in-Some.rest.now c.in-Ok.value c.in-Ok.end.now (c.in-Some.ensures os c.args.bytes.now e) c.in-Ok.ensures c.if-is_empty.ensures

pub returns-else-is_empty : goal.returns-else-is_empty
returns-else-is_empty c = λ os e. tail_more c.args.dicts.now c.args.world c.args.format c.args.count (words c.args.ids.now) os c.args.bytes.now c.in-Some.root c.in-Some.argument c.in-Some.rest.now c.in-Ok.value c.in-Ok.end.now (c.in-Some.ensures os c.args.bytes.now e) c.in-Ok.ensures c.if-is_empty.ensures
