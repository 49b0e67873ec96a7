use Rattle.std.proofs.Common.{◌≡◌, length, take}
use Rattle.m5_board.specs.Boards.{desk_at}
use Rattle.m5_board.specs.Answers.{told}
use Rattle.m5_board.proofs.tell.post.Given as goal

-- the first watchers are told
abbrev pub invariant-loop-index : goal.invariant-loop-index
invariant-loop-index g l =
    (desk_at l.desks.items ≡ told l.key l.text (take l.index l.watchers) (desk_at l.initial.desks.items))
    × (length l.desks.items ≡ length l.initial.desks.items)
