use Rattle.std.proofs.Common.{◌≡◌, map, take}
use Rattle.m5_slice.specs.code.Written.{written_step}
use Rattle.m5_slice.proofs.writing.steps.Given as goal

-- the first steps are written
abbrev pub invariant-loop-item : goal.invariant-loop-item
invariant-loop-item l = l.list ≡ map (written_step l.world) (take l.item-index l.item-items)
