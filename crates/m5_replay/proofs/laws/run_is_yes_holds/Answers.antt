use Rattle.m5_replay.proofs.Excluded.{run-is-yes}
use Rattle.m5_replay.proofs.laws.run_is_yes_holds.Goals as goal

pub returns : goal.returns
returns c = run-is-yes
