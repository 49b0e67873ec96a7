-- A region as its callers see it: a list of objects, and the units that are left.
use Rattle.std.specs.Prelude.{◌≡◌, ℕ, ◌+◌, ◌/◌, ◌<◌, ◌^◌, List, [], ◌∷◌, ◌++◌, length, take, Option, Some, None, slice_get, slice_set, zero, suc, IsSomeAnd, All}
use Rattle.m5_region.specs.declared.value.Ref.{Ref}
use Rattle.m5_region.specs.declared.value.Value.{Value}
use Rattle.m5_region.specs.declared.value.Value.TheVariants.{Null, Bool as Truth, Int, Text, Array}
use Rattle.m5_region.specs.Units.{HasNumber}

-- an array of values, or a text
pub data Object : Type 0 where
  ArrayOf : (fields : List Value) → Object
  TextOf : (bytes : List ℕ) → Object

-- the objects, the oldest first, each named by its number from 0, and the units that are left
pub record Contents : Type 0 where
  pub objects : List Object
  pub left : ℕ

-- a header, and a unit for each field or for up to eight bytes
abbrev pub units_of : Object → ℕ
units_of (ArrayOf vs) = length vs + 1
units_of (TextOf bytes) = 1 + (length bytes + 7) / 8

abbrev pub units_in : List Object → ℕ
units_in [] = 0
units_in (o ∷ os) = units_of o + units_in os

abbrev pub IsArray : Object → Type 0
IsArray (ArrayOf vs) = Unit {0}
IsArray (TextOf bytes) = ⊥

abbrev pub IsText : Object → Type 0
IsText (ArrayOf vs) = ⊥
IsText (TextOf bytes) = Unit {0}

-- a reference in the value is to one of these objects, of its kind
abbrev pub Refers : List Object → Value → Type 0
Refers os Null = Unit {0}
Refers os (Truth b) = Unit {0}
Refers os (Int n) = Unit {0}
Refers os (Text r) = IsSomeAnd (slice_get os r.0) IsText
Refers os (Array r) = IsSomeAnd (slice_get os r.0) IsArray

-- what an object after these may be: 1 to 65,535 values that refer to some of these, or fewer than
-- 2 ^ 32 bytes
abbrev pub MayFollow : List Object → Object → Type 0
MayFollow older (ArrayOf vs) =
    (0 < length vs) × (length vs < 2 ^ 16) × All HasNumber vs × All (Refers older) vs
MayFollow older (TextOf bytes) = (length bytes < 2 ^ 32) × All (λ b. b < 256) bytes

-- each object may follow those before it, so a reference is to an older object
abbrev pub ReferToOlder : List Object → Type 0
ReferToOlder os = (n : ℕ) (o : Object) → slice_get os n ≡ Some o → MayFollow (take n os) o

-- the bytes of the text, and the fields of the array, that has a number
abbrev pub bytes_in : Option Object → Option (List ℕ)
bytes_in None = None
bytes_in (Some (ArrayOf vs)) = None
bytes_in (Some (TextOf bytes)) = Some bytes

abbrev pub text_of : List Object → ℕ → Option (List ℕ)
text_of os at = bytes_in (slice_get os at)

abbrev pub fields_in : Option Object → Option (List Value)
fields_in None = None
fields_in (Some (ArrayOf vs)) = Some vs
fields_in (Some (TextOf bytes)) = None

abbrev pub fields_of : List Object → ℕ → Option (List Value)
fields_of os at = fields_in (slice_get os at)

-- one field of the array that has a number
abbrev pub place_in : Option (List Value) → ℕ → Option Value
place_in None place = None
place_in (Some vs) place = slice_get vs place

abbrev pub field_of : List Object → ℕ → ℕ → Option Value
field_of os at place = place_in (fields_of os at) place

-- the object is added where its units are left, and else nothing changes
abbrev pub Adds : Contents → Object → Option Ref → Contents → Type 0
Adds old o None new = (old.left < units_of o) × (new ≡ old)
Adds old o (Some at) new =
    (at.0 ≡ length old.objects)
    × (new.objects ≡ old.objects ++ o ∷ [])
    × (new.left + units_of o ≡ old.left)

-- the bytes of two texts, one after the other, are added as a text
abbrev pub JoinsBytes : Contents → Option (List ℕ) → Option (List ℕ) → Option Ref → Contents →
    Type 0
JoinsBytes old None second result new = ⊥
JoinsBytes old (Some a) None result new = ⊥
JoinsBytes old (Some a) (Some b) result new = Adds old (TextOf (a ++ b)) result new

abbrev pub Joins : Contents → ℕ → ℕ → Option Ref → Contents → Type 0
Joins old first second result new =
    JoinsBytes old (text_of old.objects first) (text_of old.objects second) result new

-- one field of one array set
abbrev pub object_with_field : Object → ℕ → Value → Object
object_with_field (ArrayOf vs) place v = ArrayOf (slice_set vs place v)
object_with_field (TextOf bytes) place v = TextOf bytes

abbrev pub objects_with_field : List Object → ℕ → ℕ → Value → List Object
objects_with_field [] at place v = []
objects_with_field (o ∷ os) zero place v = object_with_field o place v ∷ os
objects_with_field (o ∷ os) (suc at) place v = o ∷ objects_with_field os at place v
