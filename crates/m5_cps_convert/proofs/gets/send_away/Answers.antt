use Rattle.m5_cps_convert.proofs.Got.{sends_away}
use Rattle.m5_cps_convert.proofs.gets.send_away.Goals as goal

pub returns : goal.returns
returns c =
    sends_away c.args.walk.now c.begin_closure.new.walk c.close_behind.new.walk _ _ _ c.in_ok-pending.pending c.args.world c.args.ty c.args.sent c.args.address c.args.continuation c.args.filled
    _ _ _ c.in_ok-back.ensures c.in_ok-value.ensures c.in_ok-push.ensures.ok c.in_ok-pending.ensures c.in_ok-push-2.ensures.ok c.close_behind.ensures c.away.ensures c.in_ok-push-3.ensures.ok
