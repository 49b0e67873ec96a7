use Rattle.std.proofs.Common.{◌∙◌}
use Rattle.m5_poly.proofs.Making.{has_key}
use Rattle.m5_poly.proofs.instances.Instances.has.Goals as goal

pub returns : goal.returns
returns c = rw (← c.self.view_is) (c.contains_key.ensures ∙ has_key c.args.key.now c.self.inside.made.entries)
