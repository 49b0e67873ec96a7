-- Which objects are sent for a thread, and in which order: one for each pair of an object of the region and a
-- type id at which the thread reaches it, by the object's age, then by the type id.
use Rattle.std.specs.Prelude.{◌≡◌, ℕ, zero, suc, ◌<◌, ◌^◌, List, [], ◌∷◌, ◌++◌, length, map, Option, Some, None, ◌==◌, ◌&&◌, if◌then◌else◌, Bool, true, false, slice_get, unwrap_or}
use Rattle.std.specs.List.{flat_map, AllByRecursion}
use Rattle.m5_region.specs.declared.value.Value.{Value}
use Rattle.m5_region.specs.declared.value.Value.TheVariants as values
use Rattle.m5_region.specs.Region.{Object, ArrayOf, TextOf}
use Rattle.m5_terms.specs.declared.types.World.{World}
use Rattle.m5_dictionary.specs.declared.line.TypeLine.{TypeLine}
use Rattle.m5_dictionary.specs.declared.line.TypeLine.TheVariants as lines
use Rattle.m5_dictionary.specs.Dictionaries.{Dictionaries}
use Rattle.m5_message.specs.Reading.{Opening, Whole, Parts, reference, is_object_line}
use Rattle.m5_message.specs.Message.{Message, label_stands, label_in}
use Rattle.m5_message.specs.Spelling.{opening_in, fields_behind, IsOf, IsObjectOf, message_bytes}
use Rattle.m5_message.specs.Tree.{Leaf, tree_of, grown, ThreadTree}

-- an object's number, and a type id at which it is reached
pub record Reached : Type 0 where
  pub at : ℕ
  pub id : ℕ

abbrev pub same : Reached → Reached → Bool
same p q = (p.at == q.at) && (p.id == q.id)

abbrev pub has : List Reached → Reached → Bool
has [] q = false
has (p ∷ ps) q = if same p q then true else has ps q

-- the place of the first that is the same
abbrev pub place_in : List Reached → Reached → ℕ
place_in [] q = 0
place_in (p ∷ ps) q = if same p q then 0 else suc (place_in ps q)

-- the object that a value refers to
abbrev pub target : Value → ℕ
target values.Null = 0
target (values.Bool b) = 0
target (values.Int n) = 0
target (values.Text r) = r.0
target (values.Array r) = r.0

-- what a value of a type reaches at once
abbrev pub value_reaches : Bool → ℕ → Value → List Reached
value_reaches false id v = []
value_reaches true id v = record { at = target v; id = id } ∷ []

unfoldable pub values_reach : Dictionaries → List ℕ → List Value → List Reached
values_reach d [] vs = []
values_reach d (id ∷ ids) [] = []
values_reach d (id ∷ ids) (v ∷ vs) = value_reaches (is_object_line (slice_get d.types id)) id v ++ values_reach d ids vs

abbrev pub opened_reaches : Dictionaries → Option Opening → Object → List Reached
opened_reaches d None o = []
opened_reaches d (Some (Whole bytes)) o = []
opened_reaches d (Some (Parts first others)) o = values_reach d others (fields_behind first o)

abbrev pub object_reaches : Dictionaries → ℕ → Option Object → List Reached
object_reaches d id None = []
object_reaches d id (Some o) = opened_reaches d (opening_in d id (slice_get d.types id) o) o

abbrev pub reaches : Dictionaries → List Object → Reached → List Reached
reaches d os p = object_reaches d p.id (slice_get os p.at)

-- the type ids below a number at which an object is wanted, upwards
abbrev pub wanted_ids : List Reached → ℕ → ℕ → List Reached
wanted_ids wanted at zero = []
wanted_ids wanted at (suc id) = wanted_ids wanted at id ++ (if has wanted (record { at = at; id = id }) then record { at = at; id = id } ∷ [] else [])

-- Of the objects below a number those that are wanted, and what they reach: one pass from the newest to the oldest.
unfoldable pub marked : Dictionaries → List Object → ℕ → List Reached → List Reached
marked d os zero wanted = []
marked d os (suc at) wanted =
    marked d os at (wanted ++ flat_map (reaches d os) (wanted_ids wanted at (length d.types))) ++ wanted_ids wanted at (length d.types)

-- a value as it is sent
abbrev pub sent_value : Dictionaries → List Reached → ℕ → Option TypeLine → Value → Value
sent_value d ps id None v = v
sent_value d ps id (Some lines.Unit) v = v
sent_value d ps id (Some lines.Bool) v = v
sent_value d ps id (Some lines.Int) v = v
sent_value d ps id (Some lines.Cell) v = v
sent_value d ps id (Some (lines.Addr w)) v = v
sent_value d ps id (Some lines.Text) v = reference lines.Text (place_in ps (record { at = target v; id = id }))
sent_value d ps id (Some (lines.Pair i j)) v = reference (lines.Pair i j) (place_in ps (record { at = target v; id = id }))
sent_value d ps id (Some (lines.Sum i j)) v = reference (lines.Sum i j) (place_in ps (record { at = target v; id = id }))
sent_value d ps id (Some (lines.List i)) v = reference (lines.List i) (place_in ps (record { at = target v; id = id }))
sent_value d ps id (Some (lines.Fun i)) v = reference (lines.Fun i) (place_in ps (record { at = target v; id = id }))

unfoldable pub sent_values : Dictionaries → List Reached → List ℕ → List Value → List Value
sent_values d ps [] vs = []
sent_values d ps (id ∷ ids) [] = []
sent_values d ps (id ∷ ids) (v ∷ vs) = sent_value d ps id (slice_get d.types id) v ∷ sent_values d ps ids vs

abbrev pub sent_opened : Dictionaries → List Reached → Option Opening → Object → Object
sent_opened d ps None o = o
sent_opened d ps (Some (Whole bytes)) o = o
sent_opened d ps (Some (Parts first others)) o = ArrayOf (first ++ sent_values d ps others (fields_behind first o))

abbrev pub sent_object : Dictionaries → List Reached → ℕ → Option Object → Object
sent_object d ps id None = TextOf []
sent_object d ps id (Some o) = sent_opened d ps (opening_in d id (slice_get d.types id) o) o

abbrev pub sent : Dictionaries → List Object → List Reached → Reached → Object
sent d os ps p = sent_object d ps p.id (slice_get os p.at)

-- the closure's number and type id, and the argument with its type id
pub record Sending : Type 0 where
  pub code : Reached
  pub argument : Value
  pub argument_id : ℕ

abbrev pub sent_from : Dictionaries → List Object → Sending → List Reached
sent_from d os t = marked d os (length os) (t.code ∷ value_reaches (is_object_line (slice_get d.types t.argument_id)) t.argument_id t.argument)

-- the message for a thread
abbrev pub message_of : Dictionaries → List Object → List Reached → Sending → Message
message_of d os ps t = record {
  ids = map (λ (p : Reached). p.id) ps;
  objects = map (sent d os ps) ps;
  root = place_in ps t.code;
  argument = sent_value d ps t.argument_id (slice_get d.types t.argument_id) t.argument;
}

-- an object of the region that is one of a type at its first level; a region's references are to older objects
abbrev pub IsFit : Dictionaries → List Object → Reached → Option Object → Type 0
IsFit d os p None = ⊥
IsFit d os p (Some o) = IsObjectOf d (λ id j. (j < p.at) × (id < length d.types)) p.id o

-- each of these is
abbrev pub AreFit : Dictionaries → List Object → List Reached → Type 0
AreFit d os ps = AllByRecursion (λ p. IsFit d os p (slice_get os p.at)) ps

-- What has bytes at a world: a closure whose label stands there, with an argument of its type, and a region in which
-- all that they reach is of the types at which it is reached.
pub record IsSendable (d : Dictionaries) (w : World) (os : List Object) (t : Sending) : Type 0 where
  pub few : length (sent_from d os t) < 2 ^ 32
  pub fit : AreFit d os (sent_from d os t)
  pub code : t.code.at < length os
  pub closure : slice_get d.types t.code.id ≡ Some (lines.Fun t.argument_id)
  pub stands : label_stands d w (label_in (slice_get os t.code.at)) ≡ true
  pub argument : IsOf (λ id j. (j < length os) × (id < length d.types)) t.argument_id (slice_get d.types t.argument_id) t.argument

-- the thread as trees
abbrev pub thread_tree : List Object → Sending → ThreadTree
thread_tree os t = record { code = unwrap_or (slice_get (grown [] os) t.code.at) Leaf; argument = tree_of (grown [] os) t.argument }

-- the bytes that are sent for a thread
abbrev pub packed : Dictionaries → World → List ℕ → List Object → Sending → List ℕ
packed d w seal os t = message_bytes d w seal (message_of d os (sent_from d os t) t)
