-- What unpacking does to a region.
use Rattle.std.specs.Prelude.{◌≡◌, ℕ, ◌+◌, ◌<◌, List, ◌++◌, length, map, Result, Ok, Err, true, slice_get}
use Rattle.m5_region.specs.declared.value.Value.TheVariants.{Array}
use Rattle.m5_region.specs.declared.queue.Ready.{Ready}
use Rattle.m5_region.specs.Region.{Object, Contents, Refers, units_in}
use Rattle.m5_terms.specs.declared.types.World.{World}
use Rattle.m5_dictionary.specs.Dictionaries.{Dictionaries}
use Rattle.m5_message.specs.Message.{Message, NoSeal, BadField, label_in, label_stands, message_at}
use Rattle.m5_message.specs.Sharing.{shifted, shifted_object}
use Rattle.m5_marshal.specs.declared.unpacking.UnpackEnd.{UnpackEnd}
use Rattle.m5_marshal.specs.declared.unpacking.UnpackEnd.TheVariants as ends

-- the closure and the argument of a message, behind so many objects
abbrev pub ready_behind : ℕ → Message → Ready
ready_behind base m = record { code = Array (record { 0 = base + m.root }); argument = shifted base m.argument }

-- the message's objects stand behind the older ones
pub record Adds (old new : Contents) (m : Message) : Type 0 where
  pub objects : new.objects ≡ old.objects ++ map (shifted_object (length old.objects)) m.objects
  pub left : new.left + units_in m.objects ≡ old.left

-- Bytes that are a message add its objects where they fit. Other bytes, and objects that do not fit, are
-- refused with their cause, and the region is as before.
abbrev pub Unpacks : Dictionaries → World → List ℕ → List ℕ → Contents → Result Ready UnpackEnd → Contents → Type 0
Unpacks d w seal bytes old (Ok ready) new =
    (m : Message) × (message_at d w seal bytes ≡ Ok m) × Adds old new m × (ready ≡ ready_behind (length old.objects) m)
Unpacks d w seal bytes old (Err ends.Unsealed) new = (message_at d w seal bytes ≡ Err NoSeal) × (new ≡ old)
Unpacks d w seal bytes old (Err (ends.Outside offset)) new = (message_at d w seal bytes ≡ Err (BadField offset)) × (new ≡ old)
Unpacks d w seal bytes old (Err ends.Full) new =
    (m : Message) × (message_at d w seal bytes ≡ Ok m) × (old.left < units_in m.objects) × (new ≡ old)

-- the closure and the argument refer to objects of their kinds
abbrev pub AreThere : List Object → Ready → Type 0
AreThere os ready = Refers os ready.code × Refers os ready.argument

-- the closure is one of a label that stands at the world
abbrev pub StandsAt : Dictionaries → World → List Object → Ready → Type 0
StandsAt d w os ready = (at : ℕ) × (ready.code ≡ Array (record { 0 = at })) × (label_stands d w (label_in (slice_get os at)) ≡ true)
