use Rattle.m5_typing.proofs.Everywhere.{anywhere}
use Rattle.m5_typing.proofs.laws.typed_everywhere_holds.Goals as goal

pub returns : goal.returns
returns c = anywhere
