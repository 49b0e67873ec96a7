use Rattle.m5_board.specs.Boards.{board_of}
use Rattle.m5_replay.proofs.Makings.{some-not-none, none-there, ask-unmade, wrong-unmade, stop-made, answer-made}
use Rattle.m5_replay.proofs.check.make.Goals as goal

pub returns-then-is_some-clause-made : goal.returns-then-is_some-clause-made
returns-then-is_some-clause-made c = λ S N before weight i e r k h. ask-unmade c.args.program.now S N c.args.name.session c.args.name.world c.args.cause before weight c.in-Asks.query c.in-Asks.waiting c.args.settled (some-not-none c.args.cause c.is_some.result c.is_some.ensures c.if-is_some.true) c.in-Asks.is h

pub returns-in-Stops-clause-made : goal.returns-in-Stops-clause-made
returns-in-Stops-clause-made c = λ S N before weight i e r k h. stop-made c.args.program.now S N c.args.name.session c.args.name.world c.args.cause c.in-Stops.cause before weight c.args.start c.args.settled c.args.board.now i e r k c.in-Stops.is h

pub returns-else-is_some-clause-made : goal.returns-else-is_some-clause-made
returns-else-is_some-clause-made c = λ S N before weight i e r k h. answer-made c.answer.result c.args.program.now S N c.args.name.session c.args.name.world c.args.cause before weight c.in-Asks.query c.in-Asks.waiting c.args.settled (board_of c.args.board.now) c.answer.new.board (none-there c.args.cause c.is_some.result c.is_some.ensures c.if-is_some.false) i e r c.in-Asks.is h c.answer.ensures.made

pub returns-in-Wrong-clause-made : goal.returns-in-Wrong-clause-made
returns-in-Wrong-clause-made c = λ S N before weight i e r k h. wrong-unmade c.args.program.now S N c.args.name.session c.args.name.world c.args.cause before weight c.args.settled c.in-Wrong.is h
