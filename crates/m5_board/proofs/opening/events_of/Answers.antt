use Rattle.m5_board.proofs.Opened.{events-next}
use Rattle.m5_board.proofs.opening.events_of.Goals as goal

pub loop-event-preserved : goal.loop-event-preserved
loop-event-preserved c = events-next c.args.events.now c.loop-event.event-index c.event-item.result c.args.session c.loop-event.left c.add_event.new.left c.loop-event-test.true c.event-item.is c.loop-event.invariant c.in_ok-add_event.ensures
