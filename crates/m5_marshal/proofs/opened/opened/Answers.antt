use Rattle.m5_marshal.proofs.Fields.{opened_there}
use Rattle.m5_marshal.proofs.opened.opened.Goals as goal

pub returns-clause-there : goal.returns-clause-there
returns-clause-there c = opened_there c.args.dicts.now c.args.region.now.objects c.args.key c.opened_as.result c.requires c.opened_as.ensures c.refers_to_older.ensures
