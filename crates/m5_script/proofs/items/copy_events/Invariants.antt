use Rattle.std.proofs.Common.{◌≡◌, take}
use Rattle.m5_script.proofs.items.copy_events.Given as goal

abbrev pub invariant-loop-event : goal.invariant-loop-event
invariant-loop-event l = l.copies ≡ take l.event-index l.event-items
