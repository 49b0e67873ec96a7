use Rattle.std.proofs.Common.{◌≡◌, length}
use Rattle.flat_bench.specs.Chains.{AreChains}
use Rattle.flat_bench.proofs.chains.blocks.Given as goal

abbrev pub invariant-loop-index : goal.invariant-loop-index
invariant-loop-index l = AreChains l.types l.built × (length l.built.labels ≡ l.index)
