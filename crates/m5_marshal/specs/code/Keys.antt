-- The pairs that are marked, as the code has them.
use Rattle.std.specs.Prelude.{◌≡◌, ℕ, ◌+◌, ◌*◌, ◌^◌, ◌<◌, ◌≤◌, List, [], ◌∷◌, ◌++◌, length, drop, map, Some, true, slice_get, unwrap_or, IsSomeAnd}
use Rattle.std.specs.List.{AllByRecursion, flat_map}
use Rattle.std.specs.BTreeSet.{BTreeSet}
use Rattle.m5_region.specs.declared.value.Value.{Value}
use Rattle.m5_region.specs.Region.{Object, fields_of, text_of}
use Rattle.m5_dictionary.specs.Dictionaries.{Dictionaries, Entrance}
use Rattle.m5_marshal.specs.declared.key.Key.{Key}
use Rattle.m5_marshal.specs.declared.opening.Opened.{Opened}
use Rattle.m5_marshal.specs.declared.opening.Opened.TheVariants as kept
use Rattle.m5_message.specs.Reading.{is_object_line}
use Rattle.m5_message.specs.Message.{label_in}
use Rattle.m5_message.specs.Spelling.{short_of, value_bytes, values_bytes, first_bytes, opening_in, IsOf, AreOf}
use Rattle.m5_message.specs.Packing.{Reached, has, value_reaches, values_reach, reaches, sent_value, sent_values, IsFit, Sending}
use Rattle.m5_marshal.specs.code.Opened.{opening, others_of}

abbrev pub reached : Key → Reached
reached k = record { at = k.at; id = k.id }

-- what is to be marked yet
abbrev pub to_mark : BTreeSet Key → List Reached
to_mark s = map reached s.keys

abbrev pub id_of : Reached → ℕ
id_of p = p.id

abbrev pub marks : List Key → List Reached
marks ks = map reached ks

-- the one has what the other has, and these
pub record HasMore (old more new : List Reached) : Type 0 where
  pub kept : (q : Reached) → has old q ≡ true → has new q ≡ true
  pub added : (q : Reached) → has more q ≡ true → has new q ≡ true
  pub only : (q : Reached) → has new q ≡ true → has (old ++ more) q ≡ true

-- the object is this one, and is opened so
abbrev pub OpensAs : Dictionaries → List Object → Key → Opened → Type 0
OpensAs d os k opened = (o : Object) × (slice_get os k.at ≡ Some o) × (opening_in d k.id (slice_get d.types k.id) o ≡ Some (opening opened))

-- each can be marked
abbrev pub Below : Dictionaries → List Object → List Reached → Type 0
Below d os w = AllByRecursion (λ q. (q.at < length os) × (q.id < length d.types)) w

-- an array with so many fields stands there
abbrev pub HasFields : List Object → ℕ → ℕ → Type 0
HasFields os at n = IsSomeAnd (fields_of os at) (λ vs. n ≤ length vs)

-- the fields of an array behind its first ones
abbrev pub values_behind : List Object → ℕ → ℕ → List Value
values_behind os at first = drop first (unwrap_or (fields_of os at) [])

-- what an opened object says of the region: the text's bytes, or an array with its fields
abbrev pub IsThere : List Object → ℕ → Opened → Type 0
IsThere os at (kept.Whole bytes) = text_of os at ≡ Some bytes.now
IsThere os at (kept.Pair others) = HasFields os at (0 + length (others_of others)) × (0 + length (others_of others) < 65536)
IsThere os at (kept.Parts first others) = HasFields os at (1 + length (others_of others)) × (1 + length (others_of others) < 65536)

-- ---- the order of the pairs

abbrev pub rank : Reached → ℕ
rank p = p.at * 2 ^ 32 + p.id

abbrev pub IsNarrow : Reached → Type 0
IsNarrow p = p.id < 2 ^ 32

unfoldable pub Rising : List Reached → Type 0
Rising [] = Unit {0}
Rising (p ∷ ps) = AllByRecursion (λ q. rank p < rank q) ps × Rising ps

-- in order, with type ids of four bytes
abbrev pub Rises : List Reached → Type 0
Rises ps = Rising ps × ((q : Reached) → has ps q ≡ true → IsNarrow q)

-- what is marked, as going down from the greatest needs it
pub record IsWhole (d : Dictionaries) (os : List Object) (w m : List Reached) : Type 0 where
  pub rises : Rising m
  pub narrow : (q : Reached) → has m q ≡ true → IsNarrow q
  pub from : (q : Reached) → has m q ≡ true → has (w ++ flat_map (reaches d os) m) q ≡ true
  pub reached : (p q : Reached) → has m p ≡ true → has (reaches d os p) q ≡ true → has m q ≡ true
  pub falls : (p q : Reached) → has m p ≡ true → has (reaches d os p) q ≡ true → rank q < rank p
  pub fit : (q : Reached) → has m q ≡ true → IsFit d os q (slice_get os q.at)

-- ---- what is written

-- all of these are sent
abbrev pub AllHas : List Reached → List Reached → Type 0
AllHas ps qs = AllByRecursion (λ q. has ps q ≡ true) qs

-- a value is one of a type, and what it reaches is sent
abbrev pub IsSent : Dictionaries → List Reached → ℕ → Value → Type 0
IsSent d ps id v = IsOf (λ i j. Unit {0}) id (slice_get d.types id) v × AllHas ps (value_reaches (is_object_line (slice_get d.types id)) id v)

abbrev pub AreSent : Dictionaries → List Reached → List ℕ → List Value → Type 0
AreSent d ps ids vs = AreOf d (λ i j. Unit {0}) ids vs × AllHas ps (values_reach d ids vs)

abbrev pub PartsSent : Dictionaries → List Reached → List Object → ℕ → Opened → Type 0
PartsSent d ps os at (kept.Whole bytes) = Unit {0}
PartsSent d ps os at (kept.Pair others) = AreSent d ps (others_of others) (values_behind os at 0)
PartsSent d ps os at (kept.Parts first others) = AreSent d ps (others_of others) (values_behind os at 1)

-- the bytes of a value, and of values, as they are sent
abbrev pub sent_bytes : Dictionaries → List Reached → ℕ → ℕ → Value → List ℕ
sent_bytes d ps own id v = value_bytes own (slice_get d.types id) (sent_value d ps id (slice_get d.types id) v)

abbrev pub fields_bytes : Dictionaries → List Reached → ℕ → List ℕ → List Value → List ℕ
fields_bytes d ps own ids vs = values_bytes d own ids (sent_values d ps ids vs)

abbrev pub parts_bytes : Dictionaries → List Reached → List Object → ℕ → ℕ → Opened → List ℕ
parts_bytes d ps os at own (kept.Whole bytes) = short_of (length bytes.now) ++ bytes.now
parts_bytes d ps os at own (kept.Pair others) = fields_bytes d ps own (others_of others) (values_behind os at 0)
parts_bytes d ps os at own (kept.Parts first others) = first_bytes (first ∷ []) ++ fields_bytes d ps own (others_of others) (values_behind os at 1)

-- all that is sent: in order, with what it reaches, and each object of its type
pub record HasAll (d : Dictionaries) (os : List Object) (ps : List Reached) : Type 0 where
  pub rises : Rises ps
  pub reached : (p q : Reached) → has ps p ≡ true → has (reaches d os p) q ≡ true → has ps q ≡ true
  pub fit : (q : Reached) → has ps q ≡ true → IsFit d os q (slice_get os q.at)

-- the closure's label is there, and is entered so
abbrev pub Entered : Dictionaries → List Object → ℕ → Entrance → Type 0
Entered d os at e = (l : ℕ) × (label_in (slice_get os at) ≡ Some l) × (slice_get d.labels l ≡ Some e)

abbrev pub sending : Key → Value → ℕ → Sending
sending code v id = record { code = reached code; argument = v; argument_id = id }
