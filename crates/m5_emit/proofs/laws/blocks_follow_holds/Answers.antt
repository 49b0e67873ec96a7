use Rattle.m5_emit.proofs.Entries.{blocks_follow}
use Rattle.m5_emit.proofs.laws.blocks_follow_holds.Goals as goal

pub returns : goal.returns
returns c = blocks_follow
