use Rattle.std.proofs.Common.{◌≡◌, length, arith}
use Rattle.std.proofs.lemmas.Result.{IfOk-weaker}
use Rattle.m5_cps_convert.proofs.Nested.{so_far_begins, so_far_more, paired_up}
use Rattle.m5_cps_convert.proofs.pairs.pair_up.Goals as goal

pub loop-first-init : goal.loop-first-init
loop-first-init c = so_far_begins _ _ _

pub loop-first-preserved : goal.loop-first-preserved
loop-first-preserved c =
    so_far_more c.args.walk.now c.loop-first.walk c.pair.new.walk c.args.waiting.items c.loop-first.waiting.items c.pop.new.self.items c.in-Some.first c.args.last c.loop-first.whole
    c.in_ok-whole.whole c.loop-first.invariant c.in-Some.ensures.items c.in_ok-whole.ensures

pub returns : goal.returns
returns c =
    let e : length c.loop-first.waiting.items ≡ 0 = omega (arith, c.in_default.ensures.cases.0) in
    IfOk-weaker c.go_on.result _ _
    (λ v h.
    paired_up c.args.walk.now c.loop-first.walk c.go_on.new.walk c.args.waiting.items c.loop-first.waiting.items c.args.last c.loop-first.whole v c.args.goal c.loop-first.invariant e h)
    c.go_on.ensures
