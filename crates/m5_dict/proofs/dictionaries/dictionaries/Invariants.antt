use Rattle.std.proofs.Common.{map, take}
use Rattle.std.specs.List.{AllZip}
use Rattle.m5_flat.specs.Table.{block_of}
use Rattle.m5_dict.specs.Known.{Knows}
use Rattle.m5_dict.specs.Dictionaries.{IsEntranceOf}
use Rattle.m5_dict.proofs.dictionaries.dictionaries.Given as goal

-- the labels so far have their lines, and the types their ids
abbrev pub invariant-loop-label : goal.invariant-loop-label
invariant-loop-label l = AllZip (IsEntranceOf l.targets) l.labels.items (map (block_of l.table) (take l.label-index l.label-items)) × Knows l.table.types l.targets l.known.items
