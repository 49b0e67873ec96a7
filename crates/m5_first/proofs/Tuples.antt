-- Tuples are no declarations.
use Rattle.std.proofs.Common.{◌≡◌, ℕ, ◌<◌, true, List, [], ◌∷◌, length, refl, arith}
use Rattle.m5_lex.specs.declared.place.Place.{Place}
use Rattle.m5_tree.specs.declared.expr.Part.{Part}
use Rattle.m5_tree.specs.Tuple.{tuple}
use Rattle.m5_first.specs.Form.{keeps_say}

pub tuple_keeps : (names : List (List ℕ)) (at : Place) (parts : List Part) → 1 < length parts → keeps_say names (tuple at parts) ≡ true
tuple_keeps names at [] h = absurd (omega (arith, h))
tuple_keeps names at (p ∷ []) h = absurd (omega (arith, h))
tuple_keeps names at (p ∷ q ∷ parts) h = refl
