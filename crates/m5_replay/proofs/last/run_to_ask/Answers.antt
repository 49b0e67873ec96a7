use Rattle.std.proofs.Common.{◌≡◌, Some, None, refl, sym, ap, ◌∙◌}
use Rattle.m5_meaning.specs.Site.{Site}
use Rattle.m5_sites.specs.Sites.{kept}
use Rattle.m5_replay.proofs.LastSites.{settles-here, settles-site, runs-on-busy, runs-on, exceeds-at}
use Rattle.m5_replay.proofs.Readies.{ready-after, kept-runs, kept-self}
use Rattle.m5_replay.proofs.last.run_to_ask.Goals as goal

pub returns-in_default-clause-ready : goal.returns-in_default-clause-ready
returns-in_default-clause-ready c = ready-after c.args.limits.sessions c.args.name None c.args.running.now _ c.requires.ready tt c.take_site.ensures.left c.take_site.ensures.count refl c.requires.ready.links

pub returns-then-not-quiet-clause-run : goal.returns-then-not-quiet-clause-run
returns-then-not-quiet-clause-run c = λ S N l at board.
    let here : Some c.in-Some.site ≡ kept (N.site c.args.name.session c.args.name.world) = sym c.in-Some.is ∙ (c.take_site.ensures.taken ∙ at) in
    let runs = kept-runs c.in-Some.site (N.site c.args.name.session c.args.name.world) here in
    let same = kept-self c.in-Some.site (N.site c.args.name.session c.args.name.world) here in
    let h = settles-here c.args.program.now S N c.args.name c.args.running.now.weight c.in-Ends.weight c.in-Some.site c.in-Ends.settled same (rw c.in-Ends.is at (c.in_ok-weight.ensures.settled S l)) in
    let all = settles-site c.args.program.now S N c.args.name c.args.running.now.weight c.weight-start.result c.in-Ends.weight _ c.in-Ends.settled runs (c.weight-start.ensures ∙ ap (λ (z : Site). z.weight) same) h c.in_ok-running-in-Ends.ensures in
    runs-on-busy c.args.program.now S N c.args.name c.args.quiet c.args.running.now _ all c.if-not-quiet.true

pub returns-then-not-quiet-clause-ready : goal.returns-then-not-quiet-clause-ready
returns-then-not-quiet-clause-ready c = ready-after c.args.limits.sessions c.args.name None c.args.running.now _ c.requires.ready tt c.take_site.ensures.left c.take_site.ensures.count refl c.requires.ready.links

pub returns-in_ok-rests-in-Ends-clause-run : goal.returns-in_ok-rests-in-Ends-clause-run
returns-in_ok-rests-in-Ends-clause-run c = λ S N l at board.
    let here : Some c.in-Some.site ≡ kept (N.site c.args.name.session c.args.name.world) = sym c.in-Some.is ∙ (c.take_site.ensures.taken ∙ at) in
    let runs = kept-runs c.in-Some.site (N.site c.args.name.session c.args.name.world) here in
    let same = kept-self c.in-Some.site (N.site c.args.name.session c.args.name.world) here in
    let h = settles-here c.args.program.now S N c.args.name c.args.running.now.weight c.in-Ends.weight c.in-Some.site c.in-Ends.settled same (rw c.in-Ends.is at (c.in_ok-weight.ensures.settled S l)) in
    let all = settles-site c.args.program.now S N c.args.name c.args.running.now.weight c.weight-start.result c.in-Ends.weight _ c.in-Ends.settled runs (c.weight-start.ensures ∙ ap (λ (z : Site). z.weight) same) h c.in_ok-running-in-Ends.ensures in
    runs-on c.args.program.now S N c.args.name c.args.quiet c.in_ok-rests-in-Ends.field-0 c.args.running.now _ all c.if-not-quiet.false runs
    (c.in_ok-rests-in-Ends.ensures.rests c.args.program.now S N c.args.running.now.weight c.in-Ends.weight (board c.if-not-quiet.false) h)

pub returns-in_ok-rests-in-Ends-clause-ready : goal.returns-in_ok-rests-in-Ends-clause-ready
returns-in_ok-rests-in-Ends-clause-ready c = ready-after c.args.limits.sessions c.args.name None c.args.running.now _ c.requires.ready tt c.take_site.ensures.left c.take_site.ensures.count c.rests.ensures.count (c.in_ok-rests-in-Ends.ensures.closed_board c.requires.ready.links)

pub returns-in-Beyond-clause-run : goal.returns-in-Beyond-clause-run
returns-in-Beyond-clause-run c = λ S N l at board.
    let here : Some c.in-Some.site ≡ kept (N.site c.args.name.session c.args.name.world) = sym c.in-Some.is ∙ (c.take_site.ensures.taken ∙ at) in
    exceeds-at c.args.program.now S N c.args.name c.args.running.now.weight c.in-Some.site (kept-self c.in-Some.site (N.site c.args.name.session c.args.name.world) here) (kept-runs c.in-Some.site (N.site c.args.name.session c.args.name.world) here)
    (rw c.in-Beyond.is at (c.in_ok-weight.ensures.settled S l))

pub returns-in-Beyond-clause-ready : goal.returns-in-Beyond-clause-ready
returns-in-Beyond-clause-ready c = ready-after c.args.limits.sessions c.args.name None c.args.running.now _ c.requires.ready tt c.take_site.ensures.left c.take_site.ensures.count refl c.requires.ready.links
