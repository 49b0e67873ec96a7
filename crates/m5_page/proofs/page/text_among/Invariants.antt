use Rattle.std.proofs.Common.{◌≡◌, drop}
use Rattle.m5_script.specs.Pairs.{text_at}
use Rattle.m5_page.proofs.page.text_among.Given as goal

abbrev pub invariant-loop-pair : goal.invariant-loop-pair
invariant-loop-pair l = text_at (drop l.pair-index l.pairs) l.element ≡ text_at l.pairs l.element
