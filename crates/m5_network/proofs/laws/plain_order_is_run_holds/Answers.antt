use Rattle.m5_network.proofs.PlainOrders.{plain-order}
use Rattle.m5_network.proofs.laws.plain_order_is_run_holds.Goals as goal

pub returns : goal.returns
returns g c = plain-order g.S.HasKind.kind
