-- What the map of the names keeps: the number of each name, and of no other.
use Rattle.std.specs.Prelude.{ℕ, List, Option, None, Some, map, ◌≡◌, if◌then◌else◌}
use Rattle.std.specs.List.{list_any}
use Rattle.std.specs.Str.{bytes_eq}
use Rattle.std.specs.Global.{Vec}
use Rattle.std.specs.BTreeMap.{BTreeMap, get}
use Rattle.std.specs.Cmp.Lexicographic.{slice_cmp}
use Rattle.std.specs.Ordering.{nat_cmp}
use Rattle.m5_tree.specs.Names.{number_of}

-- the number of a name, if it is one of these
abbrev pub found : List (List ℕ) → List ℕ → Option ℕ
found names x = if list_any (bytes_eq x) names then Some (number_of names x) else None

abbrev pub Numbers : BTreeMap (Vec ℕ) ℕ → List (Vec ℕ) → Type 0
Numbers numbers names = (k : Vec ℕ) → get (λ a b. slice_cmp nat_cmp a.items b.items) numbers k ≡ found (map (λ v. v.items) names) k.items
