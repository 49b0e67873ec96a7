use Rattle.std.proofs.Common.{◌∙◌, ap}
use Rattle.m5_keys.specs.Keys.{KeyStore}
use Rattle.m5_script.specs.contracts.script.Script.{the_view}
use Rattle.m5_board.proofs.Opened.{board-opens, desks-count-is}
use Rattle.m5_board.proofs.board.Board.opening.Goals as goal

pub returns-clause-board : goal.returns-clause-board
returns-clause-board g c =
    let pairs = ap (λ (k : KeyStore). k.pairs) c.in_ok-keys.ensures ∙ c.as_slice.ensures in
    board-opens g.I.Item.raw c.args.script.now (the_view c.script.inside) c.without_watches.result c.in_ok-keys.keys.pairs c.in_ok-desks.desks.items c.script.view_is c.script.invariant c.without_watches.ensures pairs c.in_ok-desks.ensures

pub returns-clause-count : goal.returns-clause-count
returns-clause-count g c = desks-count-is g.I.Item.raw c.args.script.now c.without_watches.result c.in_ok-keys.keys.pairs c.in_ok-desks.desks.items c.without_watches.ensures c.in_ok-desks.ensures
