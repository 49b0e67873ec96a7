use Rattle.m5_cps_typing.proofs.Sites.{blocks_go_on}
use Rattle.m5_cps_typing.proofs.laws.typed_blocks_go_on_holds.Goals as goal

pub returns : goal.returns
returns c = blocks_go_on
