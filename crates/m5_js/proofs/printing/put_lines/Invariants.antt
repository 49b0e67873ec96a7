use Rattle.std.proofs.Common.{◌≡◌, ◌++◌, drop}
use Rattle.std.specs.List.{flat_map}
use Rattle.m5_machine.specs.Labelled.{blocks_from}
use Rattle.m5_js.specs.Spelling.{line_text, page_text}
use Rattle.m5_js.proofs.printing.put_lines.Given as goal

abbrev pub invariant-loop-label : goal.invariant-loop-label
invariant-loop-label l = l.out.items ++ flat_map line_text (blocks_from l.code l.label (drop l.label l.starts)) ≡ l.fn.out.items ++ page_text l.code
