-- The pairs that the entries of a map stand for.
use Rattle.std.specs.Prelude.{ℕ, List, [], ◌∷◌}
use Rattle.std.specs.Global.{Vec}
use Rattle.m5_script.specs.declared.items.TextPair.{TextPair}

abbrev pub pairs_of : List (Vec ℕ × List ℕ) → List TextPair
pairs_of [] = []
pairs_of (e ∷ es) = record { key = e.0.items; text = e.1 } ∷ pairs_of es
