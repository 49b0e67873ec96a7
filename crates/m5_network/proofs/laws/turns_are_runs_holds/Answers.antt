use Rattle.m5_network.proofs.PlainRuns.{turns-run, rounds-run}
use Rattle.m5_network.proofs.laws.turns_are_runs_holds.Goals as goal

pub returns-clause-turns : goal.returns-clause-turns
returns-clause-turns g c = turns-run g.S.HasKind.kind

pub returns-clause-rounds : goal.returns-clause-rounds
returns-clause-rounds g c = rounds-run g.S.HasKind.kind
