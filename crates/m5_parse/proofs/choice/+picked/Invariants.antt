use Rattle.std.proofs.Common.{length}
use Rattle.m5_parse.proofs.choice.+picked.Given as goal

abbrev pub decreases-picked : goal.decreases-picked
decreases-picked l = length l.table.now
