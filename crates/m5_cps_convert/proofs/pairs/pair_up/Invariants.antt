use Rattle.std.proofs.Common.{vec_len}
use Rattle.m5_cps_convert.specs.code.Pairs.{PairsSoFar}
use Rattle.m5_cps_convert.proofs.pairs.pair_up.Given as goal

abbrev pub invariant-loop-first : goal.invariant-loop-first
invariant-loop-first l = PairsSoFar l.fn.walk l.walk l.fn.waiting.items l.waiting.items l.fn.last l.whole

abbrev pub decreases-loop-first : goal.decreases-loop-first
decreases-loop-first l = vec_len l.waiting
