use Rattle.std.proofs.Common.{◌-◌, [], ◌∷◌, ◌++◌, refl}
use Rattle.m5_network.specs.Board.{Desk, link, with_link}
use Rattle.m5_board.proofs.DeskChanges.{changes, stays}
use Rattle.m5_board.proofs.desks.send.Goals as goal

pub returns-clause-ok : goal.returns-clause-ok
returns-clause-ok g c = changes c.send.result c.args.desks.now.items c.args.session (c.args.session - 1) c.index_mut-desk.result.now c.send.new.self (λ (d : Desk _). with_link c.args.from c.args.to (link d c.args.from c.args.to ++ c.args.item ∷ []) d) c.requires.session refl c.index_mut-desk.ensures.value c.send.ensures.ok

pub returns-clause-err : goal.returns-clause-err
returns-clause-err g c = stays c.send.result c.args.desks.now.items (c.args.session - 1) c.index_mut-desk.result.now c.send.new.self c.index_mut-desk.ensures.value c.send.ensures.err
