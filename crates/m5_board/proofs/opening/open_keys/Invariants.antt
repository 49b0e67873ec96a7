use Rattle.std.proofs.Common.{◌≡◌, [], take}
use Rattle.m5_board.proofs.opening.open_keys.Given as goal

abbrev pub invariant-loop-pair : goal.invariant-loop-pair
invariant-loop-pair l = l.keys ≡ record { pairs = take l.pair-index l.pairs; watches = [] }
