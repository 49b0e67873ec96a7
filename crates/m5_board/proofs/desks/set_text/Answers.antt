use Rattle.std.proofs.Common.{◌-◌, refl}
use Rattle.m5_network.specs.Board.{Desk, set_at}
use Rattle.m5_board.proofs.DeskChanges.{changes, stays}
use Rattle.m5_board.proofs.desks.set_text.Goals as goal

pub returns-clause-ok : goal.returns-clause-ok
returns-clause-ok g c = changes c.set_text.result c.args.desks.now.items c.args.session (c.args.session - 1) c.index_mut-desk.result.now c.set_text.new.self (λ (d : Desk _). record d { texts = set_at d.texts c.args.element c.args.text }) c.requires refl c.index_mut-desk.ensures.value c.set_text.ensures.ok

pub returns-clause-err : goal.returns-clause-err
returns-clause-err g c = stays c.set_text.result c.args.desks.now.items (c.args.session - 1) c.index_mut-desk.result.now c.set_text.new.self c.index_mut-desk.ensures.value c.set_text.ensures.err
