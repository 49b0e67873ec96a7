-- The three lists that keep a region's objects, and the objects that they keep.
use Rattle.std.specs.Prelude.{◌≡◌, ℕ, ◌+◌, List, [], ◌∷◌, ◌++◌, take, drop, slice_range, ◌==◌, if◌then◌else◌}
use Rattle.std.specs.Int.{w64, from_be_bytes}
use Rattle.m5_region.specs.declared.value.Value.{Value}
use Rattle.m5_region.specs.Units.{value_of}
use Rattle.m5_region.specs.Region.{Object, ArrayOf, TextOf, ReferToOlder, units_of}
use Rattle.m5_region.specs.Layout.{all_kinds, all_content}

-- the first unit of each object, from a unit on
abbrev pub starts_from : ℕ → List Object → List ℕ
starts_from at [] = []
starts_from at (o ∷ os) = at ∷ starts_from (at + units_of o) os

-- the lists spell these objects, each of which refers to older ones
pub record Spells (kinds content starts : List ℕ) (os : List Object) : Type 0 where
  pub kinds_are : kinds ≡ all_kinds os
  pub content_are : content ≡ all_content os
  pub starts_are : starts ≡ starts_from 0 os
  pub older : ReferToOlder os

-- What units spell, read from the right: the values and the bytes before the next header, and the
-- objects behind it.
pub record Gathered : Type 0 where
  pub values : List Value
  pub bytes : List ℕ
  pub objects : List Object

abbrev pub gather : ℕ → List ℕ → Gathered → Gathered
gather kind word g =
    if kind == 5 then record { values = []; bytes = []; objects = ArrayOf g.values ∷ g.objects }
    else (if kind == 6 then record { values = []; bytes = []; objects = TextOf (take (from_be_bytes w64 word) g.bytes) ∷ g.objects }
    else (if kind == 7 then record g { bytes = word ++ g.bytes }
    else record g { values = value_of kind (from_be_bytes w64 word) ∷ g.values }))

unfoldable pub gathered : List ℕ → List ℕ → Gathered
gathered [] content = record { values = []; bytes = []; objects = [] }
gathered (kind ∷ kinds) content = gather kind (take 8 content) (gathered kinds (drop 8 content))

-- the objects that the units spell
unfoldable pub objects_in : List ℕ → List ℕ → List Object
objects_in kinds content = (gathered kinds content).objects

-- two ranges of a list, each from a place and with a length, one after the other
abbrev pub two_ranges : List ℕ → ℕ × ℕ → ℕ × ℕ → List ℕ
two_ranges content first second =
    slice_range content first.0 (first.0 + first.1)
    ++ slice_range content second.0 (second.0 + second.1)
