use Rattle.std.proofs.Common.{◌≡◌, ◌++◌, [], ◌∷◌, drop}
use Rattle.std.specs.List.{flat_map}
use Rattle.m5_poly.specs.Uses.{key_of}
use Rattle.m5_poly.proofs.uses.key_of.Given as goal

-- the key so far, and what the arguments that are left add
abbrev pub invariant-loop-argument : goal.invariant-loop-argument
invariant-loop-argument l = l.key.items ++ flat_map (λ codes. codes ++ 48 ∷ []) (drop l.argument-index l.arguments) ≡ key_of l.name l.arguments
