-- What a message's bytes stand for, by the fields from left to right, with the first bad one.
use Rattle.std.specs.Prelude.{ℕ, zero, suc, List, [], ◌∷◌, ◌++◌, length, take, drop, Option, Some, None, Ok, Err, nat_lt, ◌==◌, if◌then◌else◌, Bool, true, false, slice_get, pos}
use Rattle.std.specs.List.{list_all}
use Rattle.std.specs.Int.{w32, w64, cast_signed}
use Rattle.m5_region.specs.declared.value.Value.{Value}
use Rattle.m5_region.specs.declared.value.Value.TheVariants as values
use Rattle.m5_region.specs.Region.{Object, ArrayOf, TextOf}
use Rattle.m5_dictionary.specs.declared.line.TypeLine.{TypeLine}
use Rattle.m5_dictionary.specs.declared.line.TypeLine.TheVariants as lines
use Rattle.m5_message.specs.declared.format.Format.{Format}
use Rattle.m5_terms.specs.Text.{text_byte}
use Rattle.m5_dictionary.specs.Dictionaries.{Dictionaries, Entrance, code_of_world, is_object}
use Rattle.m5_message.specs.Numbers.{Read, ◌>>=◌, field, where_ok, wide, number, small_number, older}

-- a byte 00 or 01
abbrev pub flag : List ℕ → Option (Bool × List ℕ)
flag [] = None
flag (zero ∷ rest) = Some (false, rest)
flag (suc zero ∷ rest) = Some (true, rest)
flag (suc (suc b) ∷ rest) = None

-- a value seen where there is one
abbrev pub seen : {A B : Type 0} → (A → B) → Option (A × List ℕ) → Option (B × List ℕ)
seen f None = None
seen f (Some x) = Some (f x.0, x.1)

-- the object of this number, as a value of its type
abbrev pub reference : TypeLine → ℕ → Value
reference lines.Text j = values.Text (record { 0 = j })
reference (lines.Pair a b) j = values.Array (record { 0 = j })
reference (lines.Sum a b) j = values.Array (record { 0 = j })
reference (lines.List a) j = values.Array (record { 0 = j })
reference (lines.Fun a) j = values.Array (record { 0 = j })
reference other j = values.Null

-- the object has exactly this type id
abbrev pub has_id : Option ℕ → ℕ → Bool
has_id None id = false
has_id (Some i) id = i == id

abbrev pub reference_at : Format → List ℕ → ℕ → ℕ → TypeLine → List ℕ → Option (Value × List ℕ)
reference_at f ids own id line bytes = seen (reference line) (where_ok (λ j. has_id (slice_get ids j) id) (older f own bytes))

-- a value of a type, in an object of this number
abbrev pub value_of_line : Format → List ℕ → ℕ → ℕ → Option TypeLine → List ℕ → Option (Value × List ℕ)
value_of_line f ids own id None bytes = None
value_of_line f ids own id (Some lines.Unit) bytes = Some (values.Null, bytes)
value_of_line f ids own id (Some lines.Bool) bytes = seen values.Bool (flag bytes)
value_of_line f ids own id (Some lines.Int) bytes = seen (λ n. values.Int (cast_signed w64 n)) (wide w64 bytes)
value_of_line f ids own id (Some lines.Cell) bytes = seen (λ n. values.Int (pos n)) (where_ok (λ n. nat_lt n 4096) (number f bytes))
value_of_line f ids own id (Some (lines.Addr w)) bytes = Some (values.Int (pos (code_of_world w)), bytes)
value_of_line f ids own id (Some lines.Text) bytes = reference_at f ids own id lines.Text bytes
value_of_line f ids own id (Some (lines.Pair a b)) bytes = reference_at f ids own id (lines.Pair a b) bytes
value_of_line f ids own id (Some (lines.Sum a b)) bytes = reference_at f ids own id (lines.Sum a b) bytes
value_of_line f ids own id (Some (lines.List a)) bytes = reference_at f ids own id (lines.List a) bytes
value_of_line f ids own id (Some (lines.Fun a)) bytes = reference_at f ids own id (lines.Fun a) bytes

unfoldable pub value_at : Dictionaries → Format → List ℕ → ℕ → ℕ → List ℕ → Read Value
value_at d f ids own id bytes = field bytes (value_of_line f ids own id (slice_get d.types id) bytes)

unfoldable pub values_at : Dictionaries → Format → List ℕ → ℕ → List ℕ → List ℕ → Read (List Value)
values_at d f ids own [] bytes = Ok ([], bytes)
values_at d f ids own (id ∷ others) bytes = do
  v ← value_at d f ids own id bytes
  vs ← values_at d f ids own others v.1
  Ok (v.0 ∷ vs.0, vs.1)

-- What the first fields of a content say: a text, or an array's first fields and the types of the others.
pub data Opening : Type 0 where
  Whole : (bytes : List ℕ) → Opening
  Parts : (first : List Value) (ids : List ℕ) → Opening

-- that many bytes, each of a text
abbrev pub letters : ℕ → List ℕ → Option (List ℕ × List ℕ)
letters n bytes = if nat_lt (length bytes) n then None else (if list_all text_byte (take n bytes) then Some (take n bytes, drop n bytes) else None)

abbrev pub side : ℕ → ℕ → Bool → Opening
side i j false = Parts (values.Bool false ∷ []) (i ∷ [])
side i j true = Parts (values.Bool true ∷ []) (j ∷ [])

abbrev pub cell_of_list : ℕ → ℕ → Bool → Opening
cell_of_list i id false = Parts (values.Bool false ∷ []) []
cell_of_list i id true = Parts (values.Bool true ∷ []) (i ∷ id ∷ [])

-- the label is there, and has this argument type
abbrev pub entered : ℕ → ℕ → Option Entrance → Option Opening
entered i label None = None
entered i label (Some e) = if e.argument == i then Some (Parts (values.Int (pos label) ∷ []) e.environment) else None

abbrev pub with_rest : Option Opening → List ℕ → Option (Opening × List ℕ)
with_rest None rest = None
with_rest (Some o) rest = Some (o, rest)

abbrev pub label_at : Dictionaries → ℕ → Option (ℕ × List ℕ) → Option (Opening × List ℕ)
label_at d i None = None
label_at d i (Some x) = with_rest (entered i x.0 (slice_get d.labels x.0)) x.1

abbrev pub text_at : Format → List ℕ → Read Opening
text_at f bytes = do
  n ← field bytes (number f bytes)
  field n.1 (seen Whole (letters n.0 n.1))

abbrev pub opening_of : Dictionaries → Format → ℕ → Option TypeLine → List ℕ → Read Opening
opening_of d f id None bytes = Err (length bytes)
opening_of d f id (Some lines.Unit) bytes = Err (length bytes)
opening_of d f id (Some lines.Bool) bytes = Err (length bytes)
opening_of d f id (Some lines.Int) bytes = Err (length bytes)
opening_of d f id (Some lines.Cell) bytes = Err (length bytes)
opening_of d f id (Some (lines.Addr w)) bytes = Err (length bytes)
opening_of d f id (Some lines.Text) bytes = text_at f bytes
opening_of d f id (Some (lines.Pair i j)) bytes = Ok (Parts [] (i ∷ j ∷ []), bytes)
opening_of d f id (Some (lines.Sum i j)) bytes = field bytes (seen (side i j) (flag bytes))
opening_of d f id (Some (lines.List i)) bytes = field bytes (seen (cell_of_list i id) (flag bytes))
opening_of d f id (Some (lines.Fun i)) bytes = field bytes (label_at d i (small_number f bytes))

unfoldable pub opening_at : Dictionaries → Format → ℕ → List ℕ → Read Opening
opening_at d f id bytes = opening_of d f id (slice_get d.types id) bytes

-- the content behind its first fields
abbrev pub closing_at : Dictionaries → Format → List ℕ → ℕ → Opening → List ℕ → Read Object
closing_at d f ids own (Whole bytes) rest = Ok (TextOf bytes, rest)
closing_at d f ids own (Parts first others) rest = values_at d f ids own others rest >>= λ vs. Ok (ArrayOf (first ++ vs.0), vs.1)

unfoldable pub content_at : Dictionaries → Format → List ℕ → ℕ → ℕ → List ℕ → Read Object
content_at d f ids own id bytes = opening_at d f id bytes >>= λ o. closing_at d f ids own o.0 o.1

-- the contents of the objects from a number on
unfoldable pub contents_at : Dictionaries → Format → List ℕ → ℕ → List ℕ → List ℕ → Read (List Object)
contents_at d f ids own [] bytes = Ok ([], bytes)
contents_at d f ids own (id ∷ others) bytes = do
  o ← content_at d f ids own id bytes
  os ← contents_at d f ids (suc own) others o.1
  Ok (o.0 ∷ os.0, os.1)

-- the id is there, and of a type whose values are objects
abbrev pub is_object_line : Option TypeLine → Bool
is_object_line None = false
is_object_line (Some line) = is_object line

abbrev pub id_at : Dictionaries → List ℕ → Option (ℕ × List ℕ)
id_at d bytes = where_ok (λ id. is_object_line (slice_get d.types id)) (wide w32 bytes)

unfoldable pub ids_at : Dictionaries → ℕ → List ℕ → Read (List ℕ)
ids_at d zero bytes = Ok ([], bytes)
ids_at d (suc n) bytes = do
  id ← field bytes (id_at d bytes)
  ids ← ids_at d n id.1
  Ok (id.0 ∷ ids.0, ids.1)
