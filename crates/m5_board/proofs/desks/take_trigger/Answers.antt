use Rattle.std.proofs.Common.{◌-◌, refl}
use Rattle.m5_board.proofs.DeskChanges.{takes-trigger}
use Rattle.m5_board.proofs.desks.take_trigger.Goals as goal

pub returns : goal.returns
returns g c = takes-trigger c.take_trigger.result c.args.desks.now.items c.args.session (c.args.session - 1) c.index_mut-desk.result.now c.take_trigger.new.self c.requires refl c.index_mut-desk.ensures.value c.take_trigger.ensures
