use Rattle.std.proofs.Common.{◌-◌, [], ◌∷◌, ◌++◌, refl}
use Rattle.m5_network.specs.Board.{Desk}
use Rattle.m5_board.proofs.DeskChanges.{changes, stays}
use Rattle.m5_board.proofs.desks.fire.Goals as goal

pub returns-clause-ok : goal.returns-clause-ok
returns-clause-ok g c = changes c.fire.result c.args.desks.now.items c.args.session (c.args.session - 1) c.index_mut-desk.result.now c.fire.new.self (λ (d : Desk _). record d { triggers = d.triggers ++ c.args.trigger ∷ [] }) c.requires refl c.index_mut-desk.ensures.value c.fire.ensures.ok

pub returns-clause-err : goal.returns-clause-err
returns-clause-err g c = stays c.fire.result c.args.desks.now.items (c.args.session - 1) c.index_mut-desk.result.now c.fire.new.self c.index_mut-desk.ensures.value c.fire.ensures.err
