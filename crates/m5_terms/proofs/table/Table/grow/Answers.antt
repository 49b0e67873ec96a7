use Rattle.std.proofs.Common.{◌∙◌, ap}
use Rattle.m5_terms.specs.Table.{entries}
use Rattle.m5_terms.proofs.Tables.{entries_push}
use Rattle.m5_terms.proofs.table.Table.grow.Goals as goal

pub loop-self-preserved : goal.loop-self-preserved
loop-self-preserved g c = ap entries c.in_ok-push.ensures.items ∙ (entries_push _ ∙ c.loop-self.invariant)
