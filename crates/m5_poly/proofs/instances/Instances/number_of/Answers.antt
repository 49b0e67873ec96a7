use Rattle.std.proofs.Common.{sym, ◌∙◌, arith, true, false}
use Rattle.m5_poly.proofs.Making.{count_next}
use Rattle.m5_poly.proofs.instances.Instances.number_of.Goals as goal
use Rattle.m5_poly.proofs.instances.Instances.number_of.Goals.{then-is_of, else-is_of}

pub loop-index-preserved : goal.loop-index-preserved
loop-index-preserved c = elim c.if-is_of.branch [
  | then-is_of w ↦ let next = count_next c.args.generic c.args.self.now c.loop-index.index true (sym w.if-is_of.true ∙ c.is_of.ensures) in rw w.number-is (omega (arith, next))
  | else-is_of w ↦ let next = count_next c.args.generic c.args.self.now c.loop-index.index false (sym w.if-is_of.false ∙ c.is_of.ensures) in rw w.number-is (omega (arith, next))
]
