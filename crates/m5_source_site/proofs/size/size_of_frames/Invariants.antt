use Rattle.std.proofs.Common.{◌≡◌, ◌-◌, ◌^◌, min, take}
use Rattle.m5_terms.specs.Size.{frames_size}
use Rattle.m5_source_site.proofs.size.size_of_frames.Given as goal

abbrev pub invariant-loop-index : goal.invariant-loop-index
invariant-loop-index l = l.total ≡ min (frames_size (take l.index l.frames)) (2 ^ 64 - 1)
