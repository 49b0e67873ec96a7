use Rattle.std.proofs.Common.{◌-◌, ◌≤◌, vec_len, vec_capacity}
use Rattle.std.specs.Io.KnownBytes.{Consumes}
use Rattle.m5_base.proofs.bytes.read_all.Given as goal

-- the items are what the source has given, the room for more is reserved, and the count of faults has not fallen
abbrev pub invariant-loop-piece : goal.invariant-loop-piece
invariant-loop-piece g l = (vec_len l.items ≤ l.room) × (l.room ≤ vec_capacity l.items)
    × Consumes (g.S.Source.left l.fn.source) (g.S.Source.left l.source) l.items.items
    × (g.S.Source.faults l.fn.source ≤ g.S.Source.faults l.source)

abbrev pub decreases-loop-piece : goal.decreases-loop-piece
decreases-loop-piece g l = l.room - vec_len l.items
