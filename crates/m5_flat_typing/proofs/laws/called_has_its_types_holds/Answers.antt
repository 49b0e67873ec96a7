use Rattle.m5_flat_typing.proofs.Labels.{called_has_its_types}
use Rattle.m5_flat_typing.proofs.laws.called_has_its_types_holds.Goals as goal

pub returns : goal.returns
returns c = called_has_its_types
