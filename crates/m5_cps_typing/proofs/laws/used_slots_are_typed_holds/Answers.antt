use Rattle.m5_cps_typing.proofs.Used.{used_has}
use Rattle.m5_cps_typing.proofs.laws.used_slots_are_typed_holds.Goals as goal

pub returns : goal.returns
returns c E b n l S k h u d = used_has E k b n l S h u d
