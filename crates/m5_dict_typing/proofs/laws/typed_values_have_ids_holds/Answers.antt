use Rattle.m5_dict_typing.proofs.Sites.{typed_values_have_ids}
use Rattle.m5_dict_typing.proofs.laws.typed_values_have_ids_holds.Goals as goal

pub returns : goal.returns
returns c = typed_values_have_ids
