use Rattle.m5_dict_typing.proofs.Sites.{threads_bring_their_types}
use Rattle.m5_dict_typing.proofs.laws.threads_bring_their_types_holds.Goals as goal

pub returns : goal.returns
returns c = threads_bring_their_types
