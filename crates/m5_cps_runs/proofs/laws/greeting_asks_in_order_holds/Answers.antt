use Rattle.m5_cps_runs.proofs.Greeting.{greeting_asks_in_order}
use Rattle.m5_cps_runs.proofs.laws.greeting_asks_in_order_holds.Goals as goal

pub returns : goal.returns
returns c = greeting_asks_in_order
