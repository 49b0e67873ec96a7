use Rattle.m5_scope.proofs.Numbered.{binders_differ}
use Rattle.m5_scope.proofs.laws.binders_differ_holds.Goals as goal

pub returns : goal.returns
returns c = binders_differ
