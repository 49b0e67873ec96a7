use Rattle.m5_cps_convert.proofs.Departing.{sends_home}
use Rattle.m5_cps_convert.proofs.aways.send_home.Goals as goal

pub returns : goal.returns
returns c =
    sends_home c.args.walk.now c.push.new.self c.push-2.new.self c.args.world c.args.continuation c.args.value c.in_ok-push.ensures.ok c.in_ok-push-2.ensures.ok
