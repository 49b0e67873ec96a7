use Rattle.std.proofs.Common.{◌-◌, ◌∙◌, sym, None, refl}
use Rattle.m5_net.proofs.ChangedSite.{of-session, in-site, changed}
use Rattle.m5_net.proofs.sites.take_site.Goals as goal

pub returns-clause-taken : goal.returns-clause-taken
returns-clause-taken c =
    c.take_at.ensures.taken ∙ (sym (in-site c.index_mut-session.result.now c.args.name.world c.requires.world)
    ∙ sym (of-session c.args.sites.now.items c.args.name.session (c.args.name.session - 1) c.index_mut-session.result.now c.args.name.world c.requires.session refl c.index_mut-session.ensures.value))

pub returns-clause-left : goal.returns-clause-left
returns-clause-left c = changed c.args.sites.now.items c.args.name.session (c.args.name.session - 1) c.args.name.world None c.index_mut-session.result.now c.take_at.new.session c.requires.session c.requires.world refl c.index_mut-session.ensures.value c.take_at.ensures.left
