use Rattle.m5_page.proofs.Pairs.{differs-more, differs-all}
use Rattle.m5_page.proofs.page.position.Goals as goal

pub loop-index-preserved : goal.loop-index-preserved
loop-index-preserved c = differs-more c.args.key.now c.args.pairs.now c.loop-index.index c.index-pairs-index.result c.has_key.result c.loop-index-test.true c.index-pairs-index.is c.has_key.ensures c.if-has_key.false c.loop-index.invariant

pub returns : goal.returns
returns c = differs-all c.args.key.now c.args.pairs.now c.loop-index.index c.loop-index-test.false c.loop-index.invariant
