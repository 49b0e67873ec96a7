use Rattle.m5_board.proofs.Answering.{received}
use Rattle.m5_board.proofs.board.Board.receive.Goals as goal

pub returns-clause-item : goal.returns-clause-item
returns-clause-item g c = received c.receive.result _ _ c.args.session c.args.from c.args.to c.receive.new.desks.items c.self.view_is c.receive.ensures
