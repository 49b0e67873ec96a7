use Rattle.m5_script.specs.contracts.script.Script.{the_view}
use Rattle.m5_board.proofs.Opened.{desk-opens}
use Rattle.m5_board.proofs.opening.open_desk.Goals as goal

pub returns : goal.returns
returns g c = desk-opens g.I.Item.raw c.args.script.now (the_view c.script.inside) c.args.session c.opening.result c.in_ok-events.events c.in_ok-links.links c.as_slice.result.now c.as_slice-2.result.now c.script.view_is c.as_slice.ensures c.as_slice-2.ensures c.in_ok-events.ensures c.in_ok-links.ensures c.opening.ensures
