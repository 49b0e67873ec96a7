-- A whole message: what its bytes stand for at a world, or the first bad field.
use Rattle.std.specs.Prelude.{ℕ, zero, suc, ◌-◌, List, [], ◌∷◌, length, drop, Option, Some, None, Result, Ok, Err, nat_eq, if◌then◌else◌, Bool, true, false, slice_get, pos, negsuc}
use Rattle.std.specs.List.{starts_with}
use Rattle.m5_region.specs.declared.value.Value.{Value}
use Rattle.m5_region.specs.declared.value.Value.TheVariants as values
use Rattle.m5_region.specs.Region.{Object, ArrayOf, TextOf}
use Rattle.m5_terms.specs.declared.types.World.{World}
use Rattle.m5_dictionary.specs.declared.line.TypeLine.{TypeLine}
use Rattle.m5_dictionary.specs.declared.line.TypeLine.TheVariants as lines
use Rattle.m5_message.specs.declared.format.Format.{Format}
use Rattle.m5_message.specs.declared.format.Format.TheVariants.{First, Second}
use Rattle.m5_dictionary.specs.Dictionaries.{Dictionaries, Entrance, stands_at}
use Rattle.m5_message.specs.Numbers.{Read, ◌>>=◌, field, number, older}
use Rattle.m5_message.specs.Reading.{value_at, contents_at, ids_at}

-- The objects of a message, each with its type id; the root's number; the argument. References are numbers of this list.
pub record Message : Type 0 where
  pub ids : List ℕ
  pub objects : List Object
  pub root : ℕ
  pub argument : Value

-- the label of a closure
abbrev pub label_in : Option Object → Option ℕ
label_in None = None
label_in (Some (TextOf bytes)) = None
label_in (Some (ArrayOf [])) = None
label_in (Some (ArrayOf (values.Null ∷ vs))) = None
label_in (Some (ArrayOf (values.Bool b ∷ vs))) = None
label_in (Some (ArrayOf (values.Text r ∷ vs))) = None
label_in (Some (ArrayOf (values.Array r ∷ vs))) = None
label_in (Some (ArrayOf (values.Int (pos n) ∷ vs))) = Some n
label_in (Some (ArrayOf (values.Int (negsuc n) ∷ vs))) = None

abbrev pub stands_there : Option Entrance → World → Bool
stands_there None w = false
stands_there (Some e) w = stands_at e.world w

abbrev pub label_stands : Dictionaries → World → Option ℕ → Bool
label_stands d w None = false
label_stands d w (Some l) = stands_there (slice_get d.labels l) w

-- the type id of a function's argument
abbrev pub argument_of : Option TypeLine → Option ℕ
argument_of None = None
argument_of (Some lines.Unit) = None
argument_of (Some lines.Bool) = None
argument_of (Some lines.Int) = None
argument_of (Some lines.Text) = None
argument_of (Some (lines.Pair i j)) = None
argument_of (Some (lines.Sum i j)) = None
argument_of (Some (lines.List i)) = None
argument_of (Some (lines.Fun i)) = Some i
argument_of (Some lines.Cell) = None
argument_of (Some (lines.Addr w)) = None

abbrev pub line_at : Dictionaries → Option ℕ → Option TypeLine
line_at d None = None
line_at d (Some id) = slice_get d.types id

-- the argument's type id, where the object can be a root at this world
abbrev pub rooted : Bool → Option ℕ → Option ℕ
rooted false argument = None
rooted true argument = argument

abbrev pub root_of : Dictionaries → World → List ℕ → List Object → ℕ → Option ℕ
root_of d w ids os j = rooted (label_stands d w (label_in (slice_get os j))) (argument_of (line_at d (slice_get ids j)))

-- the root's number and its argument's type id
abbrev pub with_argument : ℕ → List ℕ → Option ℕ → Option ((ℕ × ℕ) × List ℕ)
with_argument j rest None = None
with_argument j rest (Some id) = Some ((j, id), rest)

abbrev pub as_root : Dictionaries → World → List ℕ → List Object → Option (ℕ × List ℕ) → Option ((ℕ × ℕ) × List ℕ)
as_root d w ids os None = None
as_root d w ids os (Some x) = with_argument x.0 x.1 (root_of d w ids os x.0)

abbrev pub root_at : Dictionaries → World → Format → ℕ → List ℕ → List Object → List ℕ → Read (ℕ × ℕ)
root_at d w f n ids os bytes = field bytes (as_root d w ids os (older f n bytes))

-- nothing stands behind the message
abbrev pub ended : {A : Type 0} → A → List ℕ → Result A ℕ
ended x [] = Ok x
ended x (b ∷ rest) = Err (length (b ∷ rest))

-- the fields from the number of objects on
unfoldable pub body_at : Dictionaries → World → Format → List ℕ → Result Message ℕ
body_at d w f bytes = do
  n ← field bytes (number f bytes)
  ids ← ids_at d n.0 n.1
  os ← contents_at d f ids.0 0 ids.0 ids.1
  root ← root_at d w f n.0 ids.0 os.0 os.1
  argument ← value_at d f ids.0 n.0 root.0.1 root.1
  ended (record { ids = ids.0; objects = os.0; root = root.0.0; argument = argument.0 }) argument.1

-- the ninth byte says which format it is
unfoldable pub version_at : Dictionaries → World → List ℕ → Result Message ℕ
version_at d w [] = Err 0
version_at d w (zero ∷ bytes) = body_at d w First (zero ∷ bytes)
version_at d w (suc zero ∷ bytes) = Err (length (suc zero ∷ bytes))
version_at d w (suc (suc zero) ∷ bytes) = body_at d w Second bytes
version_at d w (suc (suc (suc b)) ∷ bytes) = Err (length (suc (suc (suc b)) ∷ bytes))

-- why bytes are no message: another seal, or a field that is bad, by its offset
pub data Fault : Type 0 where
  NoSeal : Fault
  BadField : (offset : ℕ) → Fault

abbrev pub by_offset : {A : Type 0} → ℕ → Result A ℕ → Result A Fault
by_offset whole (Ok x) = Ok x
by_offset whole (Err left) = Err (BadField (whole - left))

unfoldable pub message_at : Dictionaries → World → List ℕ → List ℕ → Result Message Fault
message_at d w seal bytes = if starts_with nat_eq bytes seal then by_offset (length bytes) (version_at d w (drop 8 bytes)) else Err NoSeal
