use Rattle.std.proofs.Common.{refl}
use Rattle.m5_board.specs.Boards.{board_of}
use Rattle.m5_reference.proofs.Turns.{stops-turned, wrong-turned, answers}
use Rattle.m5_reference.proofs.ClosedTurns.{with_limits, closed-answers, closed-boards}
use Rattle.m5_reference.proofs.turn.turn.Goals as goal

pub returns-in-Stops-clause-turned : goal.returns-in-Stops-clause-turned
returns-in-Stops-clause-turned c = λ S N l e a. stops-turned c.args.program.now S N c.args.name.session c.args.name.world c.args.site c.in-Stops.cause c.args.board.now e a (rw c.in-Stops.is at (c.in_ok-cause.ensures.moment S l))

pub returns-in-Asks-clause-turned : goal.returns-in-Asks-clause-turned
returns-in-Asks-clause-turned c = λ S N l e a. answers c.answer_turn.result c.args.program.now S N c.args.name.session c.args.name.world c.args.site c.in-Asks.waiting.site c.in-Asks.waiting.wait c.in-Asks.query c.args.board.now c.answer_turn.new.board e a (rw c.in-Asks.is at (c.in_ok-cause.ensures.moment S l)) c.answer_turn.ensures.board c.answer_turn.ensures.turned

pub returns-in-Asks-clause-closed : goal.returns-in-Asks-clause-closed
returns-in-Asks-clause-closed c = λ d. closed-answers c.answer_turn.result c.args.program.now (with_limits c.args.limits) c.args.name.session c.args.name.world c.args.site c.in-Asks.waiting.site c.in-Asks.waiting.wait c.in-Asks.query (board_of c.args.board.now) (rw c.in-Asks.is at c.in_ok-cause.ensures.closed) (rw c.in-Asks.is at (c.in_ok-cause.ensures.moment (with_limits c.args.limits) (record { steps = refl; region = refl }))) d c.answer_turn.ensures.turned

pub returns-in-Asks-clause-closed_board : goal.returns-in-Asks-clause-closed_board
returns-in-Asks-clause-closed_board c = λ d. closed-boards c.answer_turn.result c.args.program.now c.args.name.session c.args.name.world c.in-Asks.waiting.site c.in-Asks.waiting.wait c.in-Asks.query (board_of c.args.board.now) (board_of c.answer_turn.new.board) (rw c.in-Asks.is at c.in_ok-cause.ensures.closed) d c.answer_turn.ensures.board

pub returns-in-Wrong-clause-turned : goal.returns-in-Wrong-clause-turned
returns-in-Wrong-clause-turned c = λ S N l e a. wrong-turned c.args.program.now S N c.args.name.session c.args.name.world c.args.site a (rw c.in-Wrong.is at (c.in_ok-cause.ensures.moment S l))
