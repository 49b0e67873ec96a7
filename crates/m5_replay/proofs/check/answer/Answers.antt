use Rattle.std.proofs.Common.{sym, subst, ◌∙◌}
use Rattle.m5_board.specs.Boards.{board_of}
use Rattle.m5_sites.specs.ClosedSites.{IsClosedBoard, IsClosedLeft}
use Rattle.m5_source_site.specs.ClosedSite.{IsClosedReply}
use Rattle.m5_replay.proofs.Readies.{kept-closed}
use Rattle.m5_sites.proofs.ClosedBoard.{answer-closed}
use Rattle.m5_replay.proofs.check.answer.Goals as goal

pub returns-then-is_nothing-clause-closed_board : goal.returns-then-is_nothing-clause-closed_board
returns-then-is_nothing-clause-closed_board c = λ d. subst IsClosedBoard (sym c.in_ok-reply.ensures.answered.board) (answer-closed (board_of c.args.board.now) c.args.name.session c.args.name.world c.args.query c.requires.closed.0 d).board_

pub returns-in-Some-clause-closed : goal.returns-in-Some-clause-closed
returns-in-Some-clause-closed c = λ d.
    let told : IsClosedReply c.in_ok-reply.field-0.reply = subst IsClosedReply (sym c.in_ok-reply.ensures.answered.reply) (answer-closed (board_of c.args.board.now) c.args.name.session c.args.name.world c.args.query c.requires.closed.0 d).reply_ in
    subst IsClosedLeft (sym c.keep.ensures) (kept-closed c.in-Some.site (c.requires.closed.1 c.in_ok-reply.field-0.reply c.in-Some.site told (sym c.in_ok-site.ensures ∙ c.in-Some.is)))

pub returns-in-Some-clause-closed_board : goal.returns-in-Some-clause-closed_board
returns-in-Some-clause-closed_board c = λ d. subst IsClosedBoard (sym c.in_ok-reply.ensures.answered.board) (answer-closed (board_of c.args.board.now) c.args.name.session c.args.name.world c.args.query c.requires.closed.0 d).board_

pub returns-in-None-clause-closed_board : goal.returns-in-None-clause-closed_board
returns-in-None-clause-closed_board c = λ d. subst IsClosedBoard (sym c.in_ok-reply.ensures.answered.board) (answer-closed (board_of c.args.board.now) c.args.name.session c.args.name.world c.args.query c.requires.closed.0 d).board_
