use Rattle.std.proofs.Common.{◌∙◌}
use Rattle.m5_replay.proofs.Kept.{kept}
use Rattle.m5_replay.proofs.depth.stays_shallow.Goals as goal

pub returns : goal.returns
returns c = λ P w before e h. c.is_shallow_front.ensures ∙ kept P w before c.args.site.now e h
