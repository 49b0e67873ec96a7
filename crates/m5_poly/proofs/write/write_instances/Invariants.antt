use Rattle.std.proofs.Common.{◌≡◌, drop, Some}
use Rattle.std.specs.List.{flat_map}
use Rattle.m5_poly.specs.Walk.{Made}
use Rattle.m5_poly.specs.code.Views.{generic_of}
use Rattle.m5_poly.specs.code.Writing.{with_tokens, one_written}
use Rattle.m5_poly.proofs.write.write_instances.Given as goal

-- the instances that are left complete the answer
abbrev pub invariant-loop-index : goal.invariant-loop-index
invariant-loop-index l =
    with_tokens l.out (flat_map (λ (m : Made). one_written l.source.text.now.generics l.source.made.now l.number (generic_of l.generic) (Some m)) (drop l.index l.source.made.now))
    ≡ with_tokens l.initial.out (flat_map (λ (m : Made). one_written l.source.text.now.generics l.source.made.now l.number (generic_of l.generic) (Some m)) l.source.made.now)
