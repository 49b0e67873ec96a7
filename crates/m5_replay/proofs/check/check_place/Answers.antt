use Rattle.std.proofs.Common.{◌≡◌, Some, None, refl, sym, ◌∙◌, arith}
use Rattle.m5_network.specs.Run.{IsSite}
use Rattle.m5_sites.specs.Sites.{site_at, kept}
use Rattle.m5_replay.proofs.Readies.{ready-after, kept-runs, kept-self}
use Rattle.m5_replay.proofs.check.check_place.Goals as goal

pub check_site-requires-clause-ready : goal.check_site-requires-clause-ready
check_site-requires-clause-ready c = ready-after c.args.limits.sessions c.args.name None c.args.running.now _ c.requires.ready tt c.take_site.ensures.left c.take_site.ensures.count refl c.requires.ready.links

pub returns-in-Some-clause-checked : goal.returns-in-Some-clause-checked
returns-in-Some-clause-checked c = λ S N before ds limits stands named cause.
    let there = c.is_there.ensures.0 c.if-not-is_there.false in
    let site : IsSite S c.args.name.session c.args.name.world = record { from_one = there.0; to_last = omega (arith, there.1, c.requires.ready.count, limits.sessions); world = c.requires.world } in
    let here : Some c.in-Some.site ≡ kept (N.site c.args.name.session c.args.name.world) = sym c.in-Some.is ∙ (c.take_site.ensures.taken ∙ stands.sites c.args.name.session c.args.name.world site) in
    c.check_site.ensures.checked S N before ds limits site (record { whole = site_at c.args.running.now.sites.items; taken = c.take_site.ensures.left; sites = stands.sites; weighs = stands.weighs; stops = stands.stops })
    stands.board (kept-runs c.in-Some.site (N.site c.args.name.session c.args.name.world) here) (kept-self c.in-Some.site (N.site c.args.name.session c.args.name.world) here) named cause

pub returns-in-None-clause-ready : goal.returns-in-None-clause-ready
returns-in-None-clause-ready c = ready-after c.args.limits.sessions c.args.name None c.args.running.now _ c.requires.ready tt c.take_site.ensures.left c.take_site.ensures.count refl c.requires.ready.links
