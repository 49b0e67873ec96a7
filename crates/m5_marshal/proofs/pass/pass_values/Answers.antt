use Rattle.std.proofs.Common.{◌+◌, ◌∙◌, ap, arith}
use Rattle.m5_marshal.specs.code.Opened.{others_of}
use Rattle.m5_marshal.specs.code.Ids.{words}
use Rattle.m5_marshal.specs.code.Adding.{rest_of}
use Rattle.m5_marshal.proofs.Passing.{values_err, values_next, values_done, rest_onto}
use Rattle.m5_marshal.proofs.pass.pass_values.Goals as goal

pub returns : goal.returns
returns c = c.loop-place.invariant ∙ ap rest_of (values_done c.args.dicts.now c.args.format (words c.args.ids.now) c.args.own (others_of c.args.others) c.loop-place.place c.loop-place.rest.now (omega arith))

pub returns-in-Err : goal.returns-in-Err
returns-in-Err c = c.loop-place.invariant ∙ ap rest_of (values_err c.args.dicts.now c.args.format (words c.args.ids.now) c.args.own (others_of c.args.others) c.loop-place.place c.other_at-id.result c.loop-place.rest.now c.in-Err.left c.other_at-id.ensures c.in-Err.ensures)

pub loop-place-preserved : goal.loop-place-preserved
loop-place-preserved c =
    c.loop-place.invariant
    ∙ ap rest_of (values_next c.args.dicts.now c.args.format (words c.args.ids.now) c.args.own (others_of c.args.others) c.loop-place.place (c.loop-place.place + 1) c.other_at-id.result c.loop-place.rest.now _ (omega arith) c.other_at-id.ensures c.in-Ok.ensures)
    ∙ rest_onto _ _
