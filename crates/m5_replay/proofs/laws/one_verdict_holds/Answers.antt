use Rattle.m5_replay.proofs.Opposed.{one-verdict}
use Rattle.m5_replay.proofs.laws.one_verdict_holds.Goals as goal

pub returns : goal.returns
returns c = one-verdict
