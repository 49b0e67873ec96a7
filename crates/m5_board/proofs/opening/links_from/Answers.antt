use Rattle.std.proofs.Common.{rules, of_calls}
use Rattle.m5_board.specs.Opening.{link_items}
use Rattle.m5_board.proofs.Eachs.{each-by}
use Rattle.m5_board.proofs.opening.links_from.Goals as goal

pub returns : goal.returns
returns g c =
    each-by (λ w. link_items g.I.Item.raw c.args.session c.args.from w c.args.raws.now) _ c.of_each.result
    (λ p h w i. let made = h w i in search (of_calls, rules, made)) c.of_each.ensures
