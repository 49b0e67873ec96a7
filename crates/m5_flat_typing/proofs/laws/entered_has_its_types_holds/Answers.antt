use Rattle.m5_flat_typing.proofs.Labels.{entered_has_its_types}
use Rattle.m5_flat_typing.proofs.laws.entered_has_its_types_holds.Goals as goal

pub returns : goal.returns
returns c = entered_has_its_types
