use Rattle.std.proofs.Common.{◌-◌, refl}
use Rattle.m5_net.proofs.ChangedSite.{changed}
use Rattle.m5_net.proofs.sites.put_site.Goals as goal

pub returns-clause-put : goal.returns-clause-put
returns-clause-put c = changed c.args.sites.now.items c.args.name.session (c.args.name.session - 1) c.args.name.world c.args.site c.index_mut-session.result.now c.set.new.self c.requires.session c.requires.world refl c.index_mut-session.ensures.value c.set.ensures
