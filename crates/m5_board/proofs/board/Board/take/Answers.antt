use Rattle.m5_terms.specs.declared.types.World.TheVariants.{Server}
use Rattle.m5_board.proofs.Answering.{other-at}
use Rattle.m5_board.proofs.board.Board.take.Goals as goal

pub returns-in-Server-clause-answered : goal.returns-in-Server-clause-answered
returns-in-Server-clause-answered g c = other-at (g.I.Item.has_seal c.args.session) c.take_trigger.result c.args.self.now c.take_message.new.self c.take_trigger.new.self c.args.session c.args.at Server c.in-Server.is c.in-None.ensures.item.0 c.in-None.ensures.item.1 c.take_trigger.ensures.answered
