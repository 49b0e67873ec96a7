use Rattle.std.proofs.Common.{◌≡◌}
use Rattle.m5_board.specs.Opening.{desks_opened}
use Rattle.m5_board.proofs.opening.open_desks.Given as goal

abbrev pub invariant-loop-before : goal.invariant-loop-before
invariant-loop-before g l = l.desks.items ≡ desks_opened g.I.Item.raw l.script l.before
