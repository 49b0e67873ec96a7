use Rattle.std.proofs.Common.{sym, subst, ◌∙◌}
use Rattle.m5_region.specs.declared.value.Value.{Value}
use Rattle.m5_region.specs.Region.{Refers}
use Rattle.m5_site.specs.code.Sound.{IsClosureIn}
use Rattle.m5_site.proofs.Computed.{handler_enters}
use Rattle.m5_site.proofs.computing.calls.Goals as goal

pub returns-then-adds_handler-clause-sound : goal.returns-then-adds_handler-clause-sound
returns-then-adds_handler-clause-sound c = λ code s a.
    let os = c.args.state.now.bench.region.objects in
    c.with_handler.ensures.sound code s
    (subst (λ (v : Value). IsClosureIn code os v) (sym c.two_parts-handler.ensures.second)
    (record {
      refers = subst (λ (v : Value). Refers os v) c.two_parts-handler.ensures.second c.two_parts-handler.ensures.second_refers;
      closure = handler_enters code os c.args.primitive c.args.argument (sym c.adds_handler.ensures ∙ c.if-adds_handler.true) a.taken;
    }))
