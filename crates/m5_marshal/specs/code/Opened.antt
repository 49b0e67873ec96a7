-- What the code keeps of a content's first fields, as the definition has it.
use Rattle.std.specs.Prelude.{ℕ, ◌<◌, List, [], ◌∷◌, length}
use Rattle.m5_region.specs.declared.value.Value.{Value}
use Rattle.m5_region.specs.declared.value.Value.TheVariants as values
use Rattle.m5_marshal.specs.declared.opening.Others.{Others}
use Rattle.m5_marshal.specs.declared.opening.Others.TheVariants.{Nothing, One, Two, Many}
use Rattle.m5_marshal.specs.declared.opening.Opened.{Opened}
use Rattle.m5_marshal.specs.declared.opening.Opened.TheVariants as kept
use Rattle.m5_message.specs.Reading.{Opening, Whole, Parts}

abbrev pub others_of : Others → List ℕ
others_of Nothing = []
others_of (One i) = i ∷ []
others_of (Two i j) = i ∷ j ∷ []
others_of (Many ids) = ids.now

abbrev pub opening : Opened → Opening
opening (kept.Whole bytes) = Whole bytes.now
opening (kept.Pair others) = Parts [] (others_of others)
opening (kept.Parts first others) = Parts (first ∷ []) (others_of others)

-- a value that is no reference
abbrev pub IsPlain : Value → Type 0
IsPlain values.Null = Unit {0}
IsPlain (values.Bool b) = Unit {0}
IsPlain (values.Int n) = Unit {0}
IsPlain (values.Text r) = ⊥
IsPlain (values.Array r) = ⊥

-- the first field is no reference, and there are as many fields as an array can have
abbrev pub FitsArray : Opened → Type 0
FitsArray (kept.Whole bytes) = Unit {0}
FitsArray (kept.Pair others) = (0 < length (others_of others)) × (length (others_of others) < 65536)
FitsArray (kept.Parts first others) = IsPlain first × (length (others_of others) < 65535)
