use Rattle.m5_network.specs.Run.{source}
use Rattle.m5_network.proofs.Asking.{source-apart}
use Rattle.m5_network.proofs.PlainOrders.{plain-order}
use Rattle.m5_network.proofs.Runs.{prefix, determine, compose}
use Rattle.m5_network.proofs.laws.program_runs_hold.Goals as goal

pub returns-clause-prefix : goal.returns-clause-prefix
returns-clause-prefix c = λ P S. prefix (source P S)

pub returns-clause-determine : goal.returns-clause-determine
returns-clause-determine c = λ P S. determine (source P S)

pub returns-clause-compose : goal.returns-clause-compose
returns-clause-compose c = λ P S. compose (source P S)

pub returns-clause-stops : goal.returns-clause-stops
returns-clause-stops c = λ P S. source-apart P S

pub returns-clause-plain : goal.returns-clause-plain
returns-clause-plain c = λ P S. plain-order (source P S)
