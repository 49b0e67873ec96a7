use Rattle.std.proofs.Common.{◌≡◌, map, take}
use Rattle.m5_slice.specs.code.Written.{written_label}
use Rattle.m5_slice.proofs.writing.labels.Given as goal

-- the first labels are written
abbrev pub invariant-loop-index : goal.invariant-loop-index
invariant-loop-index l = l.list ≡ map (written_label l.table.types l.world l.end) (take l.index l.all)
