-- What reading leaves behind in a region.
use Rattle.std.specs.Prelude.{◌≡◌, ℕ, suc, ◌+◌, ◌-◌, ◌<◌, List, [], ◌∷◌, ◌++◌, length, take, drop, map, Option, Some, None, Result, Ok, Err, Bool, true, false, slice_get, IsSomeAnd}
use Rattle.m5_region.specs.declared.value.Value.{Value}
use Rattle.m5_region.specs.Region.{Object, ArrayOf, Contents, units_of, units_in, IsArray, IsText, objects_with_field}
use Rattle.m5_dictionary.specs.declared.line.TypeLine.{TypeLine}
use Rattle.m5_dictionary.specs.declared.line.TypeLine.TheVariants as lines
use Rattle.m5_dictionary.specs.Dictionaries.{Dictionaries}
use Rattle.m5_message.specs.Numbers.{Read, ◌>>=◌}
use Rattle.m5_message.specs.Sharing.{shifted, shifted_object}

-- the bytes behind what was read
abbrev pub rest_of : {A : Type 0} → Read A → Result (List ℕ) ℕ
rest_of (Ok x) = Ok x.1
rest_of (Err e) = Err e

-- an object of the kind that values of the type refer to
abbrev pub IsKind : Option TypeLine → Object → Type 0
IsKind None o = ⊥
IsKind (Some lines.Unit) o = ⊥
IsKind (Some lines.Bool) o = ⊥
IsKind (Some lines.Int) o = ⊥
IsKind (Some lines.Text) o = IsText o
IsKind (Some (lines.Pair i j)) o = IsArray o
IsKind (Some (lines.Sum i j)) o = IsArray o
IsKind (Some (lines.List i)) o = IsArray o
IsKind (Some (lines.Fun i)) o = IsArray o
IsKind (Some lines.Cell) o = ⊥
IsKind (Some (lines.Addr w)) o = ⊥

-- the first objects of a message stand behind so many others, each of the kind of its type id
pub record Kinds (d : Dictionaries) (ids : List ℕ) (base own : ℕ) (os : List Object) : Type 0 where
  pub count : length os ≡ base + own
  pub kinds : (j id : ℕ) → j < own → slice_get ids j ≡ Some id → IsSomeAnd (slice_get os (base + j)) (IsKind (slice_get d.types id))

-- fields of one array set, from a place on
unfoldable pub set_fields : List Object → ℕ → ℕ → List Value → List Object
set_fields os at place [] = os
set_fields os at place (v ∷ vs) = set_fields (objects_with_field os at place v) at (suc place) vs

abbrev pub FillsTo : Contents → ℕ → ℕ → List Value → Contents → Type 0
FillsTo old at from vs new = new ≡ record { objects = set_fields old.objects at from vs; left = old.left }

-- the array's fields are those that were read; at a bad field some are set
abbrev pub Fills : {R : Type 0} → (R → List ℕ) → Contents → ℕ → ℕ → ℕ → Read (List Value) → Result R ℕ → Contents → Type 0
Fills view old at from base read (Ok rest) new = (vs : List Value) × (read ≡ Ok (vs, view rest)) × FillsTo old at from (map (shifted base) vs) new
Fills view old at from base read (Err e) new = (vs : List Value) × (read ≡ Err e) × FillsTo old at from vs new

-- The object that was read is added, or does not fit, and then nothing changed. At a bad field objects were added.
abbrev pub Added : {R : Type 0} → (R → List ℕ) → Contents → ℕ → Read Object → Result (R × Bool) ℕ → Contents → Type 0
Added view old base read (Ok (rest, true)) new = (o : Object) × (read ≡ Ok (o, view rest)) × (new.objects ≡ old.objects ++ shifted_object base o ∷ []) × (new.left + units_of o ≡ old.left)
Added view old base read (Ok (rest, false)) new = (o : Object) × (read ≡ Ok (o, view rest)) × (old.left < units_of o) × (new ≡ old)
Added view old base read (Err e) new = (more : List Object) × (read ≡ Err e) × (new.objects ≡ old.objects ++ more) × (new.left + units_in more ≡ old.left)

-- an array of values read behind its first fields
abbrev pub array_at : List Value → Read (List Value) → Read Object
array_at first read = read >>= λ vs. Ok (ArrayOf (first ++ vs.0), vs.1)

abbrev pub first_of : Option Value → List Value
first_of None = []
first_of (Some v) = v ∷ []

-- some objects were added, which cut takes away again
abbrev pub Extends : Contents → Contents → Type 0
Extends old new = (more : List Object) × (new.objects ≡ old.objects ++ more) × (new.left + units_in more ≡ old.left)

-- the objects that were read are added, each of the kind of its type id, or do not fit; at a bad field, too,
-- some were added
abbrev pub AddedAll : {R : Type 0} → (R → List ℕ) → Dictionaries → List ℕ → Contents → Read (List Object) → Result (R × Bool) ℕ → Contents → Type 0
AddedAll view d ids old read (Ok (rest, true)) new =
    (os : List Object) × (read ≡ Ok (os, view rest)) × (new.objects ≡ old.objects ++ map (shifted_object (length old.objects)) os) × (new.left + units_in os ≡ old.left) × Kinds d ids (length old.objects) (length ids) new.objects
AddedAll view d ids old read (Ok (rest, false)) new =
    (os : List Object) × (read ≡ Ok (os, view rest)) × (old.left < units_in os) × Extends old new
AddedAll view d ids old read (Err e) new = (read ≡ Err e) × Extends old new

-- the items from a place up to another
abbrev pub span : ℕ → ℕ → List ℕ → List ℕ
span from until ids = take (until - from) (drop from ids)
