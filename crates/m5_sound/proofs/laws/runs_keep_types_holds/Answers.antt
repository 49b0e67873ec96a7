use Rattle.m5_sound.proofs.Networks.{keeps-types}
use Rattle.m5_sound.proofs.laws.runs_keep_types_holds.Goals as goal

pub returns : goal.returns
returns c = keeps-types
