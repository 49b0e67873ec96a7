use Rattle.std.proofs.Common.{◌≡◌, ◌≤◌, ℕ, List, length, take}
use Rattle.m5_network.specs.Board.{Desk}
use Rattle.m5_board.specs.Boards.{desk_at}
use Rattle.m5_board.specs.Answers.{told}
use Rattle.m5_board.proofs.tell.unpost.Given as goal

-- what is left to take off was told by the first watchers
abbrev pub invariant-loop-left : goal.invariant-loop-left
invariant-loop-left g l =
    (l.left ≤ length l.watchers) × ((length l.desks.items ≡ length l.initial.desks.items)
    × ((key text : List ℕ) (f : ℕ → Desk _) → desk_at l.initial.desks.items ≡ told key text l.watchers f → desk_at l.desks.items ≡ told key text (take l.left l.watchers) f))

abbrev pub decreases-loop-left : goal.decreases-loop-left
decreases-loop-left g l = l.left
