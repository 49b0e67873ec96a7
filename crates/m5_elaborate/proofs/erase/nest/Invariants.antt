use Rattle.std.proofs.Common.{◌≡◌, vec_len}
use Rattle.m5_elaborate.specs.Pairs.{nested_terms}
use Rattle.m5_elaborate.proofs.erase.nest.Given as goal

abbrev pub invariant-loop-part : goal.invariant-loop-part
invariant-loop-part l = nested_terms l.parts.items l.whole ≡ nested_terms l.fn.parts.items l.fn.last

abbrev pub decreases-loop-part : goal.decreases-loop-part
decreases-loop-part l = vec_len l.parts
