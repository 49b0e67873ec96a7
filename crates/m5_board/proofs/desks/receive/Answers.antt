use Rattle.std.proofs.Common.{◌-◌, refl}
use Rattle.m5_board.proofs.DeskChanges.{receives}
use Rattle.m5_board.proofs.desks.receive.Goals as goal

pub returns : goal.returns
returns g c = receives c.receive.result c.args.from c.args.to c.args.desks.now.items c.args.session (c.args.session - 1) c.index_mut-desk.result.now c.receive.new.self c.requires.session refl c.index_mut-desk.ensures.value c.receive.ensures
