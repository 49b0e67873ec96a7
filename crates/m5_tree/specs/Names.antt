-- The numbers of names.
use Rattle.std.specs.Prelude.{ℕ, List, [], ◌∷◌, ◌++◌, if◌then◌else◌}
use Rattle.std.specs.List.{list_any, position_or_len}
use Rattle.std.specs.Str.{bytes_eq}

-- the place of a name among the different ones before it, or the next number where it is new
abbrev pub number_of : List (List ℕ) → List ℕ → ℕ
number_of names x = position_or_len (bytes_eq x) names

-- the different names so far
abbrev pub noted : List (List ℕ) → List ℕ → List (List ℕ)
noted names x = if list_any (bytes_eq x) names then names else names ++ x ∷ []
