-- How a list of objects is laid out as units: a kind byte and eight content bytes each.
use Rattle.std.specs.Prelude.{ℕ, ◌+◌, ◌-◌, ◌*◌, ◌/◌, List, ◌∷◌, ◌++◌, length, map, replicate}
use Rattle.std.specs.List.{flat_map}
use Rattle.std.specs.Int.{w64, to_be_bytes}
use Rattle.m5_region.specs.declared.value.Value.{Value}
use Rattle.m5_region.specs.Units.{kind_of, number_of}
use Rattle.m5_region.specs.Region.{Object, ArrayOf, TextOf}

-- the units of a text's bytes
abbrev pub text_units : List ℕ → ℕ
text_units bytes = (length bytes + 7) / 8

-- the kind bytes of an object's units: a header, then its fields or its bytes
abbrev pub kinds_of : Object → List ℕ
kinds_of (ArrayOf vs) = 5 ∷ map kind_of vs
kinds_of (TextOf bytes) = 6 ∷ replicate (text_units bytes) 7

-- eight content bytes
abbrev pub word_of : Value → List ℕ
word_of v = to_be_bytes w64 (number_of v)

-- the content bytes of an object's units: how many fields or bytes, and these, with zeros after the
-- last byte
abbrev pub content_of : Object → List ℕ
content_of (ArrayOf vs) = to_be_bytes w64 (length vs) ++ flat_map word_of vs
content_of (TextOf bytes) =
    to_be_bytes w64 (length bytes)
    ++ (bytes ++ replicate (8 * text_units bytes - length bytes) 0)

abbrev pub all_kinds : List Object → List ℕ
all_kinds os = flat_map kinds_of os

abbrev pub all_content : List Object → List ℕ
all_content os = flat_map content_of os
