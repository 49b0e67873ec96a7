use Rattle.std.proofs.Common.{◌≡◌, drop}
use Rattle.m5_terms.specs.Worlds.{site_worlds}
use Rattle.m5_network.specs.Board.{take_at}
use Rattle.m5_board.specs.Boards.{board_of}
use Rattle.m5_board.proofs.board.Board.take_message.Given as goal

-- what is taken at the worlds that are left is what is taken at all
abbrev pub invariant-loop-from : goal.invariant-loop-from
invariant-loop-from g l =
    (take_at (board_of l.self) l.session l.at (drop l.from-index l.from-items) ≡ take_at (board_of l.fn.self) l.session l.at site_worlds) × (l.self ≡ l.fn.self)
