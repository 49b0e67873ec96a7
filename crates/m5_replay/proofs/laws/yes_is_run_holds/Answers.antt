use Rattle.m5_replay.proofs.Runs.{yes-is-run}
use Rattle.m5_replay.proofs.laws.yes_is_run_holds.Goals as goal

pub returns : goal.returns
returns c = yes-is-run
