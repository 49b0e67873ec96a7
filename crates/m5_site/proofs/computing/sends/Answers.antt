use Rattle.std.proofs.Common.{◌∙◌, ap, cond, Bool}
use Rattle.m5_terms.specs.declared.types.World.{World}
use Rattle.m5_site.specs.declared.state.State.{State}
use Rattle.m5_site.specs.declared.state.Wait.{Wait}
use Rattle.m5_site.specs.declared.state.Wait.TheVariants as waits
use Rattle.m5_site.specs.Site.{world_of}
use Rattle.m5_site.proofs.Sendable.{test_is}
use Rattle.m5_site.proofs.computing.sends.Goals as goal
use Rattle.std.proofs.Common.{sym}

pub returns-then-has : goal.returns-then-has
returns-then-has c =
    let x = c.args.state.now in
    let t = c.args.thread in
    let test = test_is c.dicts.result.now c.args.object.now.dicts x.bench.region.objects t c.in_ok-has.has c.is_object.ensures.dicts c.dicts.ensures c.in_ok-has.ensures in
    ap (λ (b : Bool). cond {A = Wait × State} b (waits.Send (world_of c.args.to) t, x) (waits.Wrong c.args.label, x)) (test ∙ c.if-has.true)
    ∙ ap (λ (w : World). (waits.Send w t, x)) (sym c.world_of.ensures)

pub returns-else-has : goal.returns-else-has
returns-else-has c =
    let x = c.args.state.now in
    let t = c.args.thread in
    let test = test_is c.dicts.result.now c.args.object.now.dicts x.bench.region.objects t c.in_ok-has.has c.is_object.ensures.dicts c.dicts.ensures c.in_ok-has.ensures in
    ap (λ (b : Bool). cond {A = Wait × State} b (waits.Send (world_of c.args.to) t, x) (waits.Wrong c.args.label, x)) (test ∙ c.if-has.false)
