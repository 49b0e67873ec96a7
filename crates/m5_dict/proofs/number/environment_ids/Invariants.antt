use Rattle.std.proofs.Common.{map, take}
use Rattle.std.specs.List.{AllZip}
use Rattle.m5_flat.specs.Steps.{kind_of}
use Rattle.m5_dict.specs.Lines.{Grows}
use Rattle.m5_dict.specs.Standing.{Stands, slot_target}
use Rattle.m5_dict.proofs.number.environment_ids.Given as goal

abbrev pub invariant-loop-kind : goal.invariant-loop-kind
invariant-loop-kind l = AllZip (Stands l.targets) l.ids.items (map (λ k. slot_target (kind_of l.types k)) (take l.kind-index l.kinds)) × Grows l.fn.targets l.targets
