use Rattle.m5_cps_convert.proofs.Got.{sends}
use Rattle.m5_cps_convert.proofs.gets.go_or_send.Goals as goal

pub returns : goal.returns
returns c =
    sends c.args.walk.now c.begin_test.new.walk c.end_test.new.walk c.send_away.new.walk _ _ c.args.world c.args.ty c.args.sent c.args.address c.args.continuation c.args.filled _
    c.in_ok-place.ensures c.here.ensures c.in_ok-push.ensures.ok c.end_test.ensures c.in_ok-send_away.ensures
