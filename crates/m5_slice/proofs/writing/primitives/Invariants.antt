use Rattle.std.proofs.Common.{◌≡◌, map, take}
use Rattle.std.specs.List.{filter}
use Rattle.m5_flat.specs.Steps.{named_of}
use Rattle.m5_slice.specs.Slicing.{is_primitive_at}
use Rattle.m5_slice.proofs.writing.primitives.Given as goal

-- of the first labels those of the world's primitives are written
abbrev pub invariant-loop-named : goal.invariant-loop-named
invariant-loop-named l = map named_of l.list ≡ filter (is_primitive_at l.world) (map named_of (take l.named-index l.named-items))
