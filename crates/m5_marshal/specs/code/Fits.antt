-- What is known of pairs while they are tested.
use Rattle.std.specs.Prelude.{◌≡◌, ℕ, ◌<◌, ◌^◌, List, length, Some, true, slice_get, IsSomeAnd}
use Rattle.m5_region.specs.declared.queue.Ready.{Ready}
use Rattle.m5_region.specs.Region.{Object, Refers}
use Rattle.m5_terms.specs.declared.types.World.{World}
use Rattle.m5_dictionary.specs.declared.line.TypeLine.TheVariants as lines
use Rattle.m5_dictionary.specs.Dictionaries.{Dictionaries}
use Rattle.m5_message.specs.Reading.{Opening}
use Rattle.m5_message.specs.Message.{label_stands, label_in}
use Rattle.m5_message.specs.Spelling.{opening_in, IsOf}
use Rattle.m5_message.specs.Packing.{Reached, has, AreFit, Sending, IsSendable}
use Rattle.m5_marshal.specs.Pack.{IsThread}
use Rattle.m5_marshal.specs.code.Adding.{IsKind}

-- a reference is to an object of a smaller number, of a type that is there
abbrev pub Within : Dictionaries → ℕ → ℕ → ℕ → Type 0
Within d older id j = (j < older) × (id < length d.types)

-- the object is there, and of the kind of its type
abbrev pub IsKinded : Dictionaries → List Object → Reached → Type 0
IsKinded d os q = IsSomeAnd (slice_get os q.at) (IsKind (slice_get d.types q.id))

abbrev pub AreKinded : Dictionaries → List Object → List Reached → Type 0
AreKinded d os w = (q : Reached) → has w q ≡ true → IsKinded d os q

-- the object is none of the type by its first field
abbrev pub OpensNot : Dictionaries → List Object → Reached → Type 0
OpensNot d os q = (o : Object) (p : Opening) → slice_get os q.at ≡ Some o → opening_in d q.id (slice_get d.types q.id) o ≡ Some p → ⊥

-- each is fit, and there are fewer than a message can have
abbrev pub FewFit : Dictionaries → List Object → List Reached → Type 0
FewFit d os ps = AreFit d os ps × (length ps < 2 ^ 32)

-- a closure and an argument from which marking can begin
pub record CanStart (d : Dictionaries) (os : List Object) (t : Sending) : Type 0 where
  pub code : IsKinded d os t.code
  pub argument : IsOf (Within d (length os)) t.argument_id (slice_get d.types t.argument_id) t.argument
  pub refers : Refers os t.argument

-- the thread is this one, its closure one of a label that stands at some world
pub record Starts (d : Dictionaries) (os : List Object) (thread : Ready) (t : Sending) : Type 0 where
  pub same : IsThread thread t
  pub code : IsKinded d os t.code
  pub closure : slice_get d.types t.code.id ≡ Some (lines.Fun t.argument_id)
  pub stands : (w : World) × (label_stands d w (label_in (slice_get os t.code.at)) ≡ true)
  pub only : (u : Sending) (w : World) → IsThread thread u → IsSendable d w os u → u ≡ t
