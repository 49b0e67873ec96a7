use Rattle.std.proofs.Common.{◌≡◌, take}
use Rattle.m5_board.specs.Opening.{session_events}
use Rattle.m5_board.proofs.opening.events_of.Given as goal

abbrev pub invariant-loop-event : goal.invariant-loop-event
invariant-loop-event l = l.left ≡ session_events (take l.event-index l.events) l.session
