use Rattle.std.proofs.Common.{rules}
use Rattle.std.proofs.lemmas.Int.{wraps}
use Rattle.m5_source_site.proofs.operate.sum_of.Goals as goal

pub returns : goal.returns
returns c = search (rules, wraps)
