use Rattle.m5_board.proofs.Stored.{pairs-next}
use Rattle.m5_board.proofs.opening.open_keys.Goals as goal

pub loop-pair-preserved : goal.loop-pair-preserved
loop-pair-preserved c = pairs-next c.args.pairs.now c.loop-pair.pair-index c.pair-item.result c.loop-pair.keys c.write.new.self c.in_ok-key.key c.in_ok-text.text c.loop-pair-test.true c.pair-item.is c.requires c.loop-pair.invariant c.in_ok-key.ensures c.in_ok-text.ensures c.in_ok-write.ensures.ok
