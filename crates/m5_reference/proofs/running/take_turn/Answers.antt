use Rattle.std.proofs.Common.{◌≡◌, length, Some, None, refl, sym, subst, ◌∙◌}
use Rattle.m5_reference.specs.Ahead.{IsAhead}
use Rattle.m5_sites.specs.Sites.{site_at}
use Rattle.m5_reference.proofs.TakenTurns.{skips, acts, rests, ready-after, ready-back}
use Rattle.m5_reference.proofs.running.take_turn.Goals as goal

pub returns-in_default-clause-turned : goal.returns-in_default-clause-turned
returns-in_default-clause-turned c = λ S N l h i. skips c.args.program.now S N c.args.name c.args.running.now _ h i (sym c.in_default.is ∙ c.take_site.ensures.taken) c.take_site.ensures.left refl refl

pub returns-in_default-clause-ready : goal.returns-in_default-clause-ready
returns-in_default-clause-ready c = record { count = c.take_site.ensures.count; ready = ready-after c.args.name None c.args.running.now _ c.requires.ready c.take_site.ensures.left tt c.take_site.ensures.count refl c.requires.ready.links }

pub returns-in_ok-push-in-Acts-clause-turned : goal.returns-in_ok-push-in-Acts-clause-turned
returns-in_ok-push-in-Acts-clause-turned c = λ S N l h i.
    let here : Some c.in-Some.site ≡ site_at c.args.running.now.sites.items c.args.name.session c.args.name.world = sym c.in-Some.is ∙ c.take_site.ensures.taken in
    let ahead : IsAhead c.args.program.now S c.args.name.world (N.site c.args.name.session c.args.name.world) (Some c.in-Some.site) = subst (IsAhead c.args.program.now S c.args.name.world (N.site c.args.name.session c.args.name.world)) (sym here) (h.sites c.args.name.session c.args.name.world i) in
    acts c.args.program.now S N c.args.name c.args.running.now (record { sites = c.take_site.new.sites; board = c.args.running.now.board; entries = c.args.running.now.entries }) _ c.in-Acts.left c.in-Acts.act h i c.take_site.ensures.left c.put_site.ensures.put
    (rw c.in-Acts.is at (c.in_ok-left.ensures.turned S N l h.board ahead)) c.in_ok-push-in-Acts.ensures.ok

pub returns-in_ok-push-in-Acts-clause-ready : goal.returns-in_ok-push-in-Acts-clause-ready
returns-in_ok-push-in-Acts-clause-ready c =
    let count : length c.put_site.new.sites.items ≡ length c.args.running.now.sites.items = c.put_site.ensures.count ∙ c.take_site.ensures.count in
    record {
      count = count;
      ready = ready-back c.args.name c.in-Acts.left c.args.running.now (record { sites = c.take_site.new.sites; board = c.args.running.now.board; entries = c.args.running.now.entries }) _ c.requires.ready c.take_site.ensures.left c.put_site.ensures.put
          (rw c.in-Acts.is at (c.in_ok-left.ensures.closed c.requires.ready.links)) count c.turn.ensures.count (c.in_ok-left.ensures.closed_board c.requires.ready.links);
    }

pub returns-in-Rests-clause-turned : goal.returns-in-Rests-clause-turned
returns-in-Rests-clause-turned c = λ S N l h i.
    let here : Some c.in-Some.site ≡ site_at c.args.running.now.sites.items c.args.name.session c.args.name.world = sym c.in-Some.is ∙ c.take_site.ensures.taken in
    let ahead : IsAhead c.args.program.now S c.args.name.world (N.site c.args.name.session c.args.name.world) (Some c.in-Some.site) = subst (IsAhead c.args.program.now S c.args.name.world (N.site c.args.name.session c.args.name.world)) (sym here) (h.sites c.args.name.session c.args.name.world i) in
    rests c.args.program.now S N c.args.name c.args.running.now (record { sites = c.take_site.new.sites; board = c.args.running.now.board; entries = c.args.running.now.entries }) _ c.in-Rests.site h i c.take_site.ensures.left c.put_site-in-Rests.ensures.put
    (rw c.in-Rests.is at (c.in_ok-left.ensures.turned S N l h.board ahead)) refl

pub returns-in-Rests-clause-ready : goal.returns-in-Rests-clause-ready
returns-in-Rests-clause-ready c =
    let count : length c.put_site-in-Rests.new.sites.items ≡ length c.args.running.now.sites.items = c.put_site-in-Rests.ensures.count ∙ c.take_site.ensures.count in
    record {
      count = count;
      ready = ready-back c.args.name (Some c.in-Rests.site) c.args.running.now (record { sites = c.take_site.new.sites; board = c.args.running.now.board; entries = c.args.running.now.entries }) _ c.requires.ready c.take_site.ensures.left c.put_site-in-Rests.ensures.put
          (rw c.in-Rests.is at (c.in_ok-left.ensures.closed c.requires.ready.links)) count c.turn.ensures.count (c.in_ok-left.ensures.closed_board c.requires.ready.links);
    }

pub returns-in-Wrong-clause-turned : goal.returns-in-Wrong-clause-turned
returns-in-Wrong-clause-turned c = λ S N l h i.
    let here : Some c.in-Some.site ≡ site_at c.args.running.now.sites.items c.args.name.session c.args.name.world = sym c.in-Some.is ∙ c.take_site.ensures.taken in
    let ahead : IsAhead c.args.program.now S c.args.name.world (N.site c.args.name.session c.args.name.world) (Some c.in-Some.site) = subst (IsAhead c.args.program.now S c.args.name.world (N.site c.args.name.session c.args.name.world)) (sym here) (h.sites c.args.name.session c.args.name.world i) in
    rw c.in-Wrong.is at (c.in_ok-left.ensures.turned S N l h.board ahead)

pub returns-in-Wrong-clause-ready : goal.returns-in-Wrong-clause-ready
returns-in-Wrong-clause-ready c = record {
  count = c.take_site.ensures.count;
  ready = ready-after c.args.name None c.args.running.now _ c.requires.ready c.take_site.ensures.left tt c.take_site.ensures.count c.turn.ensures.count (c.in_ok-left.ensures.closed_board c.requires.ready.links);
}
