use Rattle.std.proofs.lemmas.Result.{IfOk-weaker}
use Rattle.m5_cps_convert.proofs.Leaf.{variable_gives}
use Rattle.m5_cps_convert.proofs.leaves.emit_variable.Goals as goal

pub returns-in-None-clause-local : goal.returns-in-None-clause-local
returns-in-None-clause-local c =
    IfOk-weaker c.give.result _ _ (λ v h. (variable_gives c.args.walk.now _ c.args.around c.args.filled c.args.number _ _ v c.see-seen.ensures c.in-None.is h).0) c.give.ensures

pub returns-in-None-clause-valid : goal.returns-in-None-clause-valid
returns-in-None-clause-valid c =
    IfOk-weaker c.give.result _ _ (λ v h. (variable_gives c.args.walk.now _ c.args.around c.args.filled c.args.number _ _ v c.see-seen.ensures c.in-None.is h).1) c.give.ensures
