use Rattle.m5_dict_typing.proofs.Sites.{sites_go_on}
use Rattle.m5_dict_typing.proofs.laws.sites_go_on_holds.Goals as goal

pub returns : goal.returns
returns c = sites_go_on
