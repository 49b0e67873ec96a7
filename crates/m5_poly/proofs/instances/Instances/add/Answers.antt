use Rattle.m5_poly.proofs.Making.{put_behind}
use Rattle.m5_poly.proofs.instances.Instances.add.Goals as goal

pub returns : goal.returns
returns c = rw (← c.self.view_is, c.in_ok-insert.ensures.entries) (put_behind c.args.key c.args.instance c.self.inside.made.entries (rw c.self.view_is c.requires))
