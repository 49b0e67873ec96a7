use Rattle.std.proofs.Common.{◌-◌, refl}
use Rattle.m5_board.proofs.DeskChanges.{unfires}
use Rattle.m5_board.proofs.desks.unfire.Goals as goal

pub returns-clause-trigger : goal.returns-clause-trigger
returns-clause-trigger g c = unfires c.args.desks.now.items c.args.session (c.args.session - 1) c.index_mut-desk.result.now c.unfire.new.self c.requires refl c.index_mut-desk.ensures.value c.unfire.ensures
