use Rattle.m5_site.proofs.Apart.{stops_apart}
use Rattle.m5_site.proofs.laws.stops_apart_holds.Goals as goal

pub returns : goal.returns
returns c = λ O n. stops_apart O n
