use Rattle.m5_dict_typing.proofs.Sites.{runs_keep_types}
use Rattle.m5_dict_typing.proofs.laws.runs_keep_types_holds.Goals as goal

pub returns : goal.returns
returns c = runs_keep_types
