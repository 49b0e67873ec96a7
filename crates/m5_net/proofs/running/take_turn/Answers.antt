use Rattle.std.proofs.Common.{◌≡◌, ◌∙◌, Some, None, refl, sym}
use Rattle.m5_net.specs.Sites.{site_at}
use Rattle.m5_net.specs.Turning.{IsReadySite}
use Rattle.m5_net.proofs.TakenTurns.{by_name, ready_by_name, taken_ready, taken_ahead, skips, acts, rests, ready_after, ready_back}
use Rattle.m5_net.proofs.running.take_turn.Goals as goal

pub returns-in_default-clause-turned : goal.returns-in_default-clause-turned
returns-in_default-clause-turned c = λ n count N h i. skips c.args.object.now n count N c.args.name c.args.running.now _ h i (sym c.in_default.is ∙ c.take_site.ensures.taken) c.take_site.ensures.left refl

pub returns-in_default-clause-ready : goal.returns-in_default-clause-ready
returns-in_default-clause-ready c = ready_after c.args.object.now c.args.name None c.args.running.now _ c.requires.ready c.take_site.ensures.left tt c.take_site.ensures.count refl

pub returns-in-Acts-clause-turned : goal.returns-in-Acts-clause-turned
returns-in-Acts-clause-turned c = λ n count N h i.
    let s = c.args.name.session in
    let w = c.args.name.world in
    let old = c.args.running.now in
    let here : site_at old.sites.items s w ≡ Some c.in-Some.site = sym c.take_site.ensures.taken ∙ c.in-Some.is in
    let ready : IsReadySite c.args.object.now s w c.in-Some.site = taken_ready c.args.object.now s w c.in-Some.site _ here (c.requires.ready.sites s w) in
    let ahead = taken_ahead c.args.object.now s w (N.site s w) c.in-Some.site _ here (h.sites s w i) in
    let made = by_name c.args.object.now c.in-Some.site old.shared c.turn.new.shared c.in_ok-left.field-0 s w ready c.in_ok-left.ensures.turned n N ahead.0 h.board ahead.1 in
    acts c.args.object.now n count N c.args.name old (record { sites = c.take_site.new.sites; shared = old.shared }) _ c.in-Acts.left h c.take_site.ensures.left c.put_site.ensures.put (rw c.in-Acts.is at made)

pub returns-in-Acts-clause-ready : goal.returns-in-Acts-clause-ready
returns-in-Acts-clause-ready c =
    let s = c.args.name.session in
    let w = c.args.name.world in
    let old = c.args.running.now in
    let here : site_at old.sites.items s w ≡ Some c.in-Some.site = sym c.take_site.ensures.taken ∙ c.in-Some.is in
    let ready : IsReadySite c.args.object.now s w c.in-Some.site = taken_ready c.args.object.now s w c.in-Some.site _ here (c.requires.ready.sites s w) in
    let turned = ready_by_name c.args.object.now c.in-Some.site c.in_ok-left.field-0 s w ready c.in_ok-left.ensures.ready in
    ready_back c.args.object.now c.args.name c.in-Acts.left old (record { sites = c.take_site.new.sites; shared = old.shared }) _ c.requires.ready c.take_site.ensures.left c.put_site.ensures.put
    (rw c.in-Acts.is at turned) (c.put_site.ensures.count ∙ c.take_site.ensures.count) c.turn.ensures.count

pub returns-in-Rests-clause-turned : goal.returns-in-Rests-clause-turned
returns-in-Rests-clause-turned c = λ n count N h i.
    let s = c.args.name.session in
    let w = c.args.name.world in
    let old = c.args.running.now in
    let here : site_at old.sites.items s w ≡ Some c.in-Some.site = sym c.take_site.ensures.taken ∙ c.in-Some.is in
    let ready : IsReadySite c.args.object.now s w c.in-Some.site = taken_ready c.args.object.now s w c.in-Some.site _ here (c.requires.ready.sites s w) in
    let ahead = taken_ahead c.args.object.now s w (N.site s w) c.in-Some.site _ here (h.sites s w i) in
    let made = by_name c.args.object.now c.in-Some.site old.shared c.turn.new.shared c.in_ok-left.field-0 s w ready c.in_ok-left.ensures.turned n N ahead.0 h.board ahead.1 in
    rests c.args.object.now n count N c.args.name old (record { sites = c.take_site.new.sites; shared = old.shared }) _ c.in-Rests.site h ahead.0 c.take_site.ensures.left c.put_site-in-Rests.ensures.put (rw c.in-Rests.is at made)

pub returns-in-Rests-clause-ready : goal.returns-in-Rests-clause-ready
returns-in-Rests-clause-ready c =
    let s = c.args.name.session in
    let w = c.args.name.world in
    let old = c.args.running.now in
    let here : site_at old.sites.items s w ≡ Some c.in-Some.site = sym c.take_site.ensures.taken ∙ c.in-Some.is in
    let ready : IsReadySite c.args.object.now s w c.in-Some.site = taken_ready c.args.object.now s w c.in-Some.site _ here (c.requires.ready.sites s w) in
    let turned = ready_by_name c.args.object.now c.in-Some.site c.in_ok-left.field-0 s w ready c.in_ok-left.ensures.ready in
    ready_back c.args.object.now c.args.name (Some c.in-Rests.site) old (record { sites = c.take_site.new.sites; shared = old.shared }) _ c.requires.ready c.take_site.ensures.left c.put_site-in-Rests.ensures.put
    (rw c.in-Rests.is at turned) (c.put_site-in-Rests.ensures.count ∙ c.take_site.ensures.count) c.turn.ensures.count

pub returns-in-Wrong-clause-turned : goal.returns-in-Wrong-clause-turned
returns-in-Wrong-clause-turned c = λ n count N h i.
    let s = c.args.name.session in
    let w = c.args.name.world in
    let old = c.args.running.now in
    let here : site_at old.sites.items s w ≡ Some c.in-Some.site = sym c.take_site.ensures.taken ∙ c.in-Some.is in
    let ready : IsReadySite c.args.object.now s w c.in-Some.site = taken_ready c.args.object.now s w c.in-Some.site _ here (c.requires.ready.sites s w) in
    let ahead = taken_ahead c.args.object.now s w (N.site s w) c.in-Some.site _ here (h.sites s w i) in
    let made = by_name c.args.object.now c.in-Some.site old.shared c.turn.new.shared c.in_ok-left.field-0 s w ready c.in_ok-left.ensures.turned n N ahead.0 h.board ahead.1 in
    let stuck = rw c.in-Wrong.is at made in
    (refl, stuck.0, ahead.0, stuck.1)

pub returns-in-Wrong-clause-ready : goal.returns-in-Wrong-clause-ready
returns-in-Wrong-clause-ready c = ready_after c.args.object.now c.args.name None c.args.running.now _ c.requires.ready c.take_site.ensures.left tt c.take_site.ensures.count c.turn.ensures.count
