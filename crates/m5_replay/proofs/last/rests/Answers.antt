use Rattle.std.proofs.Common.{sym, ◌∙◌}
use Rattle.m5_board.specs.Boards.{board_of}
use Rattle.m5_replay.proofs.Resting.{look-seen, look-closed, other-end}
use Rattle.m5_replay.proofs.last.rests.Goals as goal

pub returns-then-is_look-clause-rests : goal.returns-then-is_look-clause-rests
returns-then-is_look-clause-rests c = λ P S N before weight e h. look-seen c.finds_nothing.result P S N before weight c.args.name c.args.settled.now (board_of c.args.board.now) c.finds_nothing.new.board e (sym c.is_look.ensures ∙ c.if-is_look.true) h c.finds_nothing.ensures.reply c.finds_nothing.ensures.board

pub returns-then-is_look-clause-closed_board : goal.returns-then-is_look-clause-closed_board
returns-then-is_look-clause-closed_board c = λ h. look-closed c.finds_nothing.result c.args.name (board_of c.args.board.now) (board_of c.finds_nothing.new.board) h c.finds_nothing.ensures.board

pub returns-else-is_look-clause-rests : goal.returns-else-is_look-clause-rests
returns-else-is_look-clause-rests c = λ P S N before weight e h. other-end P S N before weight c.args.name c.args.settled.now (sym c.is_look.ensures ∙ c.if-is_look.false) h
