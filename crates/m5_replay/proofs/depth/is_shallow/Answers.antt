use Rattle.m5_replay.proofs.Depths.{held}
use Rattle.m5_replay.proofs.depth.is_shallow.Goals as goal

pub returns : goal.returns
returns c = held _ c.depth_of_node.result c.depth_of_node.ensures
