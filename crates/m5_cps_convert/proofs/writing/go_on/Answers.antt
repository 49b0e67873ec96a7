use Rattle.std.proofs.Common.{refl}
use Rattle.m5_cps_convert.proofs.Written.{tail_writes, end_writes, then_writes}
use Rattle.m5_cps_convert.proofs.writing.go_on.Goals as goal

pub returns-in_ok-push-in-Tail : goal.returns-in_ok-push-in-Tail
returns-in_ok-push-in-Tail c = record { type_is = refl; writes = tail_writes c.args.walk.now _ _ _ _ _ _ c.in-Tail.is c.in_ok-push-in-Tail.ensures.ok }

pub returns-in-Then : goal.returns-in-Then
returns-in-Then c = record { type_is = refl; writes = then_writes c.args.walk.now _ _ _ _ c.in-Then.is }

pub returns-in_ok-push-in-End : goal.returns-in_ok-push-in-End
returns-in_ok-push-in-End c = record { type_is = refl; writes = end_writes c.args.walk.now _ _ _ _ _ c.in-End.is c.in_ok-push-in-End.ensures.ok }
