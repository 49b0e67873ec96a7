use Rattle.std.proofs.Common.{◌≡◌, ◌≤◌, ◌*◌, ◌/◌, length, drop}
use Rattle.m5_poly.specs.Uses.{pairs_around}
use Rattle.m5_poly.proofs.uses.pairs_around.Given as goal

-- the answer is that of the codes that are left
abbrev pub invariant-loop-code : goal.invariant-loop-code
invariant-loop-code l = (pairs_around l.depth l.least (drop l.code-index l.codes) ≡ pairs_around 0 (length l.codes / 2) l.codes) × (l.depth ≤ l.code-index) × (2 * l.least ≤ length l.codes)
