use Rattle.std.proofs.Common.{subst}
use Rattle.m5_region.specs.Region.{Contents, ReferToOlder}
use Rattle.m5_region.proofs.region.Region.refers_to_older.Goals as goal

pub returns : goal.returns
returns c = subst (λ (v : Contents). ReferToOlder v.objects) c.self.view_is c.self.invariant.spells.older
