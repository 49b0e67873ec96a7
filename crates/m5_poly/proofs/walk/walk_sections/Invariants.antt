use Rattle.std.proofs.Common.{◌≡◌, ◌≤◌, [], drop, map}
use Rattle.std.specs.Option.{option_map}
use Rattle.m5_poly.specs.Walk.{sections_walked}
use Rattle.m5_poly.specs.code.Walking.{state_of}
use Rattle.m5_poly.proofs.walk.walk_sections.Given as goal

-- what is left to walk gives the answer
abbrev pub invariant-loop-section : goal.invariant-loop-section
invariant-loop-section l =
    (sections_walked l.text.generics l.before (map (λ o. option_map (λ t. t.now) o) (drop l.section-index l.sections)) (state_of l.state)
    ≡ sections_walked l.text.generics 0 (map (λ o. option_map (λ t. t.now) o) l.sections) (record { read = 0; made = [] }))
    × (l.before ≤ l.section-index)
