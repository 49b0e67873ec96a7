use Rattle.std.proofs.Common.{◌≡◌, length}
use Rattle.m5_dict.specs.Known.{Knows}
use Rattle.m5_dict.proofs.number.type_ids.Given as goal

-- the ids of the types so far
abbrev pub invariant-loop-number : goal.invariant-loop-number
invariant-loop-number l = Knows l.types l.targets l.ids.items × (length l.ids.items ≡ l.number)
