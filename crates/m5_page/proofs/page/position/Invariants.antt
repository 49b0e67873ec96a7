use Rattle.std.proofs.Common.{take}
use Rattle.std.specs.Prelude.{All}
use Rattle.m5_page.specs.Found.{Differs}
use Rattle.m5_page.proofs.page.position.Given as goal

abbrev pub invariant-loop-index : goal.invariant-loop-index
invariant-loop-index l = All (Differs l.key) (take l.index l.pairs)
