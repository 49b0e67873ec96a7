use Rattle.m5_terms.specs.declared.types.World.TheVariants.{Home}
use Rattle.m5_board.specs.Boards.{board_of}
use Rattle.m5_board.proofs.Answering.{took, passed}
use Rattle.m5_board.proofs.board.Board.take_message.Goals as goal

pub returns-in-Some-clause-item : goal.returns-in-Some-clause-item
returns-in-Some-clause-item g c = took (board_of c.loop-from.self) c.args.session c.args.at c.worlds_of_sites-from-items.result c.loop-from.from-index Home _ _ (rw c.worlds_of_sites-from-items.ensures c.loop-from-test.true) c.loop-from.invariant.0 c.in-Some.ensures.item

pub loop-from-preserved : goal.loop-from-preserved
loop-from-preserved g c = passed c.args.self.now c.loop-from.self c.receive.new.self c.args.session c.args.at c.worlds_of_sites-from-items.result c.loop-from.from-index Home _ (rw c.worlds_of_sites-from-items.ensures c.loop-from-test.true) c.loop-from.invariant.1 c.in-None.ensures.item.1 c.loop-from.invariant.0 c.in-None.ensures.item.0
