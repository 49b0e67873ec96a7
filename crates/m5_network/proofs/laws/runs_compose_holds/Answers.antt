use Rattle.m5_network.proofs.Runs.{compose}
use Rattle.m5_network.proofs.laws.runs_compose_holds.Goals as goal

pub returns : goal.returns
returns g c = compose g.S.HasKind.kind
