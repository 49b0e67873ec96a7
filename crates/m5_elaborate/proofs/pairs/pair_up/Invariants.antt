use Rattle.std.proofs.Common.{◌≡◌, vec_len}
use Rattle.m5_terms.specs.Outcome.{found}
use Rattle.m5_elaborate.specs.Pairs.{nested}
use Rattle.m5_elaborate.proofs.pairs.pair_up.Given as goal

abbrev pub invariant-loop-pair : goal.invariant-loop-pair
invariant-loop-pair l = nested l.waiting.items (found l.whole) ≡ nested l.fn.waiting.items (found l.fn.last)

abbrev pub decreases-loop-pair : goal.decreases-loop-pair
decreases-loop-pair l = vec_len l.waiting
