use Rattle.std.proofs.Common.{◌≡◌, ◌≤◌, drop, map}
use Rattle.std.specs.Option.{option_map}
use Rattle.m5_poly.specs.Expansion.{sections_written}
use Rattle.m5_poly.specs.code.Writing.{with_tokens}
use Rattle.m5_poly.proofs.write.write_sections.Given as goal

-- what is left to write completes the answer
abbrev pub invariant-loop-section : goal.invariant-loop-section
invariant-loop-section l =
    (with_tokens l.out (sections_written l.source.text.now.generics l.source.made.now l.before (map (λ o. option_map (λ t. t.now) o) (drop l.section-index l.sections)))
    ≡ with_tokens l.initial.out (sections_written l.source.text.now.generics l.source.made.now 0 (map (λ o. option_map (λ t. t.now) o) l.sections)))
    × (l.before ≤ l.section-index)
