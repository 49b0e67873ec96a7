-- The one spelling of a message in format 2.
use Rattle.std.specs.Prelude.{◌≡◌, ℕ, zero, suc, ◌+◌, ◌-◌, ◌/◌, ◌%◌, ◌<◌, ◌^◌, List, [], ◌∷◌, ◌++◌, length, drop, Option, Some, None, nat_lt, if◌then◌else◌, Bool, slice_get, ℤ, pos, FitsSigned, IsTrue}
use Rattle.std.specs.List.{flat_map, list_all}
use Rattle.std.specs.Int.{w32, w64, to_be_bytes}
use Rattle.m5_region.specs.declared.value.Value.{Value}
use Rattle.m5_region.specs.declared.value.Value.TheVariants as values
use Rattle.m5_region.specs.Units.{number_of}
use Rattle.m5_region.specs.Region.{Object, ArrayOf, TextOf}
use Rattle.m5_terms.specs.declared.types.World.{World}
use Rattle.m5_dictionary.specs.declared.line.TypeLine.{TypeLine}
use Rattle.m5_dictionary.specs.declared.line.TypeLine.TheVariants as lines
use Rattle.m5_terms.specs.Text.{text_byte}
use Rattle.m5_dictionary.specs.Dictionaries.{Dictionaries, code_of_world}
use Rattle.m5_message.specs.Reading.{Opening, Whole, Parts, side, cell_of_list, entered, reference, is_object_line}
use Rattle.m5_message.specs.Message.{Message, root_of}

-- seven bits a byte, the least first
unfoldable pub groups_of : ℕ → ℕ → List ℕ
groups_of zero n = []
groups_of (suc k) n = if nat_lt n 128 then n ∷ [] else (n % 128 + 128) ∷ groups_of k (n / 128)

unfoldable pub short_of : ℕ → List ℕ
short_of n = groups_of 5 n

-- a value of a type, in an object of this number
abbrev pub value_bytes : ℕ → Option TypeLine → Value → List ℕ
value_bytes own None v = []
value_bytes own (Some lines.Unit) v = []
value_bytes own (Some lines.Bool) v = number_of v ∷ []
value_bytes own (Some lines.Int) v = to_be_bytes w64 (number_of v)
value_bytes own (Some lines.Cell) v = short_of (number_of v)
value_bytes own (Some (lines.Addr w)) v = []
value_bytes own (Some lines.Text) v = short_of (own - number_of v)
value_bytes own (Some (lines.Pair i j)) v = short_of (own - number_of v)
value_bytes own (Some (lines.Sum i j)) v = short_of (own - number_of v)
value_bytes own (Some (lines.List i)) v = short_of (own - number_of v)
value_bytes own (Some (lines.Fun i)) v = short_of (own - number_of v)

unfoldable pub values_bytes : Dictionaries → ℕ → List ℕ → List Value → List ℕ
values_bytes d own [] vs = []
values_bytes d own (id ∷ ids) [] = []
values_bytes d own (id ∷ ids) (v ∷ vs) = value_bytes own (slice_get d.types id) v ++ values_bytes d own ids vs

-- an array's first fields
abbrev pub first_bytes : List Value → List ℕ
first_bytes [] = []
first_bytes (values.Null ∷ vs) = []
first_bytes (values.Bool b ∷ vs) = number_of (values.Bool b) ∷ []
first_bytes (values.Int n ∷ vs) = short_of (number_of (values.Int n))
first_bytes (values.Text r ∷ vs) = []
first_bytes (values.Array r ∷ vs) = []

abbrev pub opening_bytes : Opening → List ℕ
opening_bytes (Whole bytes) = short_of (length bytes) ++ bytes
opening_bytes (Parts first ids) = first_bytes first

-- How an object is one of a type: its first fields, and the types of the others.
abbrev pub opening_in : Dictionaries → ℕ → Option TypeLine → Object → Option Opening
opening_in d id (Some lines.Text) (TextOf bytes) = Some (Whole bytes)
opening_in d id (Some (lines.Pair i j)) (ArrayOf vs) = Some (Parts [] (i ∷ j ∷ []))
opening_in d id (Some (lines.Sum i j)) (ArrayOf (values.Bool b ∷ vs)) = Some (side i j b)
opening_in d id (Some (lines.List i)) (ArrayOf (values.Bool b ∷ vs)) = Some (cell_of_list i id b)
opening_in d id (Some (lines.Fun i)) (ArrayOf (values.Int (pos l) ∷ vs)) = entered i l (slice_get d.labels l)
opening_in d id line o = None

abbrev pub fields_behind : List Value → Object → List Value
fields_behind first (ArrayOf vs) = drop (length first) vs
fields_behind first (TextOf bytes) = []

abbrev pub closing_bytes : Dictionaries → ℕ → Opening → Object → List ℕ
closing_bytes d own (Whole bytes) o = []
closing_bytes d own (Parts first ids) o = values_bytes d own ids (fields_behind first o)

abbrev pub opened_bytes : Dictionaries → ℕ → Object → Option Opening → List ℕ
opened_bytes d own o None = []
opened_bytes d own o (Some p) = opening_bytes p ++ closing_bytes d own p o

abbrev pub content_bytes : Dictionaries → ℕ → ℕ → Object → List ℕ
content_bytes d own id o = opened_bytes d own o (opening_in d id (slice_get d.types id) o)

unfoldable pub contents_bytes : Dictionaries → ℕ → List ℕ → List Object → List ℕ
contents_bytes d own [] os = []
contents_bytes d own (id ∷ ids) [] = []
contents_bytes d own (id ∷ ids) (o ∷ os) = content_bytes d own id o ++ contents_bytes d (suc own) ids os

abbrev pub ids_bytes : List ℕ → List ℕ
ids_bytes ids = flat_map (to_be_bytes w32) ids

-- the argument, where the root is a closure
abbrev pub argument_bytes : Dictionaries → ℕ → Option ℕ → Value → List ℕ
argument_bytes d n None v = []
argument_bytes d n (Some id) v = value_bytes n (slice_get d.types id) v

unfoldable pub body_bytes : Dictionaries → World → Message → List ℕ
body_bytes d w m =
    short_of (length m.ids) ++ (ids_bytes m.ids ++ (contents_bytes d 0 m.ids m.objects
    ++ (short_of (length m.ids - m.root) ++ argument_bytes d (length m.ids) (root_of d w m.ids m.objects m.root) m.argument)))

abbrev pub message_bytes : Dictionaries → World → List ℕ → Message → List ℕ
message_bytes d w seal m = seal ++ (2 ∷ body_bytes d w m)

-- A value is one of a type, where R says to which objects a reference of a type id may be.
abbrev pub IsReference : (ℕ → ℕ → Type 0) → ℕ → TypeLine → Value → Type 0
IsReference R id line v = (j : ℕ) × R id j × (v ≡ reference line j)

abbrev pub IsOf : (ℕ → ℕ → Type 0) → ℕ → Option TypeLine → Value → Type 0
IsOf R id None v = ⊥
IsOf R id (Some lines.Unit) v = v ≡ values.Null
IsOf R id (Some lines.Bool) v = (b : Bool) × (v ≡ values.Bool b)
IsOf R id (Some lines.Int) v = (n : ℤ) × FitsSigned w64 n × (v ≡ values.Int n)
IsOf R id (Some lines.Cell) v = (n : ℕ) × (n < 4096) × (v ≡ values.Int (pos n))
IsOf R id (Some (lines.Addr w)) v = v ≡ values.Int (pos (code_of_world w))
IsOf R id (Some lines.Text) v = IsReference R id lines.Text v
IsOf R id (Some (lines.Pair i j)) v = IsReference R id (lines.Pair i j) v
IsOf R id (Some (lines.Sum i j)) v = IsReference R id (lines.Sum i j) v
IsOf R id (Some (lines.List i)) v = IsReference R id (lines.List i) v
IsOf R id (Some (lines.Fun i)) v = IsReference R id (lines.Fun i) v

unfoldable pub AreOf : Dictionaries → (ℕ → ℕ → Type 0) → List ℕ → List Value → Type 0
AreOf d R [] [] = Unit {0}
AreOf d R [] (v ∷ vs) = ⊥
AreOf d R (id ∷ others) [] = ⊥
AreOf d R (id ∷ others) (v ∷ vs) = IsOf R id (slice_get d.types id) v × AreOf d R others vs

abbrev pub Closes : Dictionaries → (ℕ → ℕ → Type 0) → Opening → Object → Type 0
Closes d R (Whole bytes) o = (o ≡ TextOf bytes) × (length bytes < 2 ^ 32) × IsTrue (list_all text_byte bytes)
Closes d R (Parts first others) o = (vs : List Value) × (o ≡ ArrayOf (first ++ vs)) × AreOf d R others vs

abbrev pub IsObjectOf : Dictionaries → (ℕ → ℕ → Type 0) → ℕ → Object → Type 0
IsObjectOf d R id o = (p : Opening) × (opening_in d id (slice_get d.types id) o ≡ Some p) × Closes d R p o

-- in a message: to an object of a smaller number with exactly this type id
abbrev pub Older : List ℕ → ℕ → ℕ → ℕ → Type 0
Older ids own id j = (j < own) × (slice_get ids j ≡ Some id)

unfoldable pub AreObjectsOf : Dictionaries → List ℕ → ℕ → List ℕ → List Object → Type 0
AreObjectsOf d ids own [] [] = Unit {0}
AreObjectsOf d ids own [] (o ∷ os) = ⊥
AreObjectsOf d ids own (id ∷ others) [] = ⊥
AreObjectsOf d ids own (id ∷ others) (o ∷ os) = IsObjectOf d (Older ids own) id o × AreObjectsOf d ids (suc own) others os

unfoldable pub AreIds : Dictionaries → List ℕ → Type 0
AreIds d [] = Unit {0}
AreIds d (id ∷ ids) = (id < 2 ^ 32) × IsTrue (is_object_line (slice_get d.types id)) × AreIds d ids

-- what has a spelling at this world
pub record IsMessage (d : Dictionaries) (w : World) (m : Message) : Type 0 where
  pub few : length m.ids < 2 ^ 32
  pub ids : AreIds d m.ids
  pub objects : AreObjectsOf d m.ids 0 m.ids m.objects
  pub there : m.root < length m.ids
  pub root : (id : ℕ) × (root_of d w m.ids m.objects m.root ≡ Some id) × IsOf (Older m.ids (length m.ids)) id (slice_get d.types id) m.argument
