-- The place is not below the one, nor above the other.
use Rattle.std.proofs.Common.{◌≤◌, ◌-◌, length}
use Rattle.m5_message.specs.Packing.{place_in}
use Rattle.m5_marshal.specs.code.Keys.{reached, marks}
use Rattle.m5_marshal.proofs.places.place_of.Given as goal

abbrev pub invariant-loop-low : goal.invariant-loop-low
invariant-loop-low l =
    (l.low ≤ place_in (marks l.keys) (reached l.key)) × (place_in (marks l.keys) (reached l.key) ≤ l.high) × (l.high ≤ length l.keys)

abbrev pub decreases-loop-low : goal.decreases-loop-low
decreases-loop-low l = l.high - l.low
