use Rattle.std.proofs.Common.{rules, of_calls}
use Rattle.m5_board.specs.Opening.{links_opened}
use Rattle.m5_board.proofs.Eachs.{each-by}
use Rattle.m5_board.proofs.opening.links_of.Goals as goal

pub returns : goal.returns
returns g c =
    each-by (links_opened g.I.Item.raw c.args.raws.now c.args.session) _ c.of_each.result
    (λ p h w i. let made = h w i in search (of_calls, rules, made)) c.of_each.ensures
