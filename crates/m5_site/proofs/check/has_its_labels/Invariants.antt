use Rattle.std.proofs.Common.{◌≡◌, ℕ, ◌<◌, Some, is_some}
use Rattle.m5_machine.specs.Blocks.{start_of}
use Rattle.m5_message.specs.Message.{label_stands}
use Rattle.m5_site.proofs.check.has_its_labels.Given as goal

abbrev pub invariant-loop-number : goal.invariant-loop-number
invariant-loop-number l = (label : ℕ) → label < l.number → is_some (start_of l.code label) ≡ label_stands l.dicts l.world (Some label)
