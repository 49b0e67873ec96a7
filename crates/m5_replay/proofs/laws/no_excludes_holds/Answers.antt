use Rattle.m5_replay.proofs.Excluded.{no-excludes, no-excludes-longer}
use Rattle.m5_replay.proofs.laws.no_excludes_holds.Goals as goal

pub returns-clause-named : goal.returns-clause-named
returns-clause-named c = no-excludes

pub returns-clause-longer : goal.returns-clause-longer
returns-clause-longer c = no-excludes-longer
