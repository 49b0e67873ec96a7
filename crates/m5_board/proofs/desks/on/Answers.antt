use Rattle.std.proofs.Common.{◌-◌, [], ◌∷◌, ◌++◌, refl}
use Rattle.m5_network.specs.Board.{Desk}
use Rattle.m5_board.proofs.DeskChanges.{changes, stays}
use Rattle.m5_board.proofs.desks.on.Goals as goal

pub returns-clause-ok : goal.returns-clause-ok
returns-clause-ok g c = changes c.on.result c.args.desks.now.items c.args.session (c.args.session - 1) c.index_mut-desk.result.now c.on.new.self (λ (d : Desk _). record d { handlers = d.handlers ++ record { element = c.args.element; number = c.args.number } ∷ [] }) c.requires refl c.index_mut-desk.ensures.value c.on.ensures.ok

pub returns-clause-err : goal.returns-clause-err
returns-clause-err g c = stays c.on.result c.args.desks.now.items (c.args.session - 1) c.index_mut-desk.result.now c.on.new.self c.index_mut-desk.ensures.value c.on.ensures.err
