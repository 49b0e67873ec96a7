use Rattle.std.proofs.Common.{◌≡◌, ◌≤◌, drop}
use Rattle.m5_poly.specs.declared.types.Need.TheVariants.{Begin}
use Rattle.m5_poly.specs.Types.{closing, longer}
use Rattle.m5_poly.proofs.types.closing.Given as goal

-- what is read on is the answer, and no more parentheses are open than tokens were read
abbrev pub invariant-loop-index : goal.invariant-loop-index
invariant-loop-index l = (longer l.index (closing l.variables l.need l.depth (drop l.index l.tokens)) ≡ closing l.variables Begin 0 l.tokens) × (l.depth ≤ l.index)
