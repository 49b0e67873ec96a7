use Rattle.m5_cps_typing.proofs.Found.{found}
use Rattle.m5_cps_typing.proofs.laws.types_are_found_holds.Goals as goal

pub returns : goal.returns
returns c E G w e A d = found E e G w A d
