use Rattle.std.proofs.Common.{◌-◌, refl}
use Rattle.m5_board.proofs.DeskChanges.{takes-event}
use Rattle.m5_board.proofs.desks.take_event.Goals as goal

pub returns : goal.returns
returns g c = takes-event c.take_event.result c.args.desks.now.items c.args.session (c.args.session - 1) c.index_mut-desk.result.now c.take_event.new.self c.requires refl c.index_mut-desk.ensures.value c.take_event.ensures
