use Rattle.std.proofs.Common.{◌≡◌, take}
use Rattle.m5_board.specs.Opening.{link_items}
use Rattle.m5_board.proofs.opening.link_of.Given as goal

abbrev pub invariant-loop-item : goal.invariant-loop-item
invariant-loop-item g l = l.link ≡ link_items g.I.Item.raw l.session l.from l.to (take l.item-index l.raws)
