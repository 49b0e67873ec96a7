use Rattle.m5_cps.specs.Entries.{of}
use Rattle.m5_cps.specs.TypesByNumber.{type_in}
use Rattle.m5_flat.specs.Steps.{taking}
use Rattle.m5_dict.specs.Lines.{Grows}
use Rattle.m5_dict.specs.Standing.{Stands, slot_target}
use Rattle.m5_dict.proofs.number.kind_id.Given as goal

abbrev pub invariant-loop-time : goal.invariant-loop-time
invariant-loop-time l = Stands l.targets l.id (slot_target (taking l.time (of (type_in l.types l.fn.kind.number)))) × Grows l.fn.targets l.targets
