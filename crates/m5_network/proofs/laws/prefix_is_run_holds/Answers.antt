use Rattle.m5_network.proofs.Runs.{prefix}
use Rattle.m5_network.proofs.laws.prefix_is_run_holds.Goals as goal

pub returns : goal.returns
returns g c = prefix g.S.HasKind.kind
