use Rattle.m5_cps_convert.proofs.Got.{get_of_unit}
use Rattle.m5_cps_convert.proofs.gets.get_variable.Goals as goal

pub returns-in_ok-go_or_send-in-None : goal.returns-in_ok-go_or_send-in-None
returns-in_ok-go_or_send-in-None c =
    get_of_unit c.args.walk.now c.go_or_send-in-None.new.walk _ c.args.around c.args.world c.args.variable c.args.address c.args.continuation _ c.see-seen.result c.see-seen.ensures c.in-None.is
    c.in_ok-filled-in-None.ensures c.in_ok-push-in-None.ensures.ok c.in_ok-go_or_send-in-None.ensures
