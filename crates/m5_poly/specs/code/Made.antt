-- The instances that the entries of a map stand for.
use Rattle.std.specs.Prelude.{ℕ, Bool, false, ◌==◌, List, map, Option, Some, None}
use Rattle.std.specs.Global.{Vec}
use Rattle.m5_poly.specs.declared.instances.Instance.{Instance}
use Rattle.m5_poly.specs.Walk.{Made}

abbrev pub made_from : List ℕ → Instance → Made
made_from key instance = record { key = key; generic = instance.generic; arguments = instance.arguments.items }

abbrev pub made_of : List (Vec ℕ × Instance) → List Made
made_of entries = map (λ (e : Vec ℕ × Instance). made_from e.0.items e.1) entries

abbrev pub is_of : ℕ → Option Made → Bool
is_of generic None = false
is_of generic (Some m) = m.generic == generic
