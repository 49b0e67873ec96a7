use Rattle.std.proofs.Common.{refl}
use Rattle.m5_cps_convert.proofs.Closed.{continues_end}
use Rattle.m5_cps_convert.proofs.closing.resume.Goals as goal

pub returns-in_ok-push : goal.returns-in_ok-push
returns-in_ok-push c = record {
  continues = continues_end c.args.walk.now _ c.args.goal _ _ c.args.entry _ c.in-Some.is c.in-End.is c.close_before.ensures c.in_ok-push.ensures.ok;
  slot = refl;
  filled = c.in_ok-filled.ensures;
  type_is = refl;
}
