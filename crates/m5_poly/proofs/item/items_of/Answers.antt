use Rattle.std.proofs.Common.{sym, arith}
use Rattle.m5_poly.proofs.Making.{item_next}
use Rattle.m5_poly.proofs.item.items_of.Goals as goal

pub loop-index-preserved : goal.loop-index-preserved
loop-index-preserved c =
    rw (c.in_ok-push.ensures.items, c.of.ensures, c.loop-index.invariant)
    (sym (item_next c.args.tokens.now.tokens c.loop-index.index c.at.result.now c.place.result (omega arith) c.at.ensures.token c.place.ensures))
