use Rattle.m5_replay.proofs.Excluded.{no-is-no-run}
use Rattle.m5_replay.proofs.laws.no_is_no_run_holds.Goals as goal

pub returns : goal.returns
returns c = no-is-no-run
