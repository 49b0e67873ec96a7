use Rattle.m5_board.proofs.Opened.{link-next}
use Rattle.m5_board.proofs.opening.link_of.Goals as goal

pub loop-item-preserved : goal.loop-item-preserved
loop-item-preserved g c = link-next g.I.Item.raw c.args.raws.now c.loop-item.item-index c.item-item.result c.args.session c.args.from c.args.to c.loop-item.link c.add_raw.new.link c.loop-item-test.true c.item-item.is c.loop-item.invariant c.in_ok-add_raw.ensures
