use Rattle.std.proofs.Common.{◌∙◌}
use Rattle.m5_poly.proofs.Making.{place_some, place_none}
use Rattle.m5_poly.proofs.instances.Instances.place_of.Goals as goal

pub returns-in-Some-clause-place : goal.returns-in-Some-clause-place
returns-in-Some-clause-place c = rw (← c.self.view_is) (place_some c.args.key.now c.self.inside.made.entries c.in-Some.place c.in-Some.ensures.index)

pub returns-in-None-clause-place : goal.returns-in-None-clause-place
returns-in-None-clause-place c = rw (← c.self.view_is) (c.len-count.ensures.len ∙ place_none c.args.key.now c.self.inside.made.entries c.in-None.ensures.index)
