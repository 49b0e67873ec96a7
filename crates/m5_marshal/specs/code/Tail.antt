-- What stands behind the type ids of a message.
use Rattle.std.specs.Prelude.{◌≡◌, ℕ, ◌<◌, List, length, Result, Ok, Err, Option, Some, None}
use Rattle.m5_region.specs.declared.value.Value.{Value}
use Rattle.m5_region.specs.declared.queue.Ready.{Ready}
use Rattle.m5_region.specs.Region.{Object, Contents, units_in}
use Rattle.m5_terms.specs.declared.types.World.{World}
use Rattle.m5_message.specs.declared.format.Format.{Format}
use Rattle.m5_dictionary.specs.Dictionaries.{Dictionaries}
use Rattle.m5_message.specs.Numbers.{◌>>=◌}
use Rattle.m5_message.specs.Reading.{value_at, contents_at}
use Rattle.m5_message.specs.Message.{Message, root_at, ended}
use Rattle.m5_marshal.specs.Unpack.{Adds, ready_behind, AreThere, StandsAt}
use Rattle.m5_marshal.specs.code.Adding.{Extends}

-- the root and the argument, behind the contents
unfoldable pub tail_at : Dictionaries → World → Format → ℕ → List ℕ → List Object → List ℕ → Result (ℕ × Value) ℕ
tail_at d w f n ids os bytes = do
  root ← root_at d w f n ids os bytes
  argument ← value_at d f ids n root.0.1 root.1
  ended (root.0.0, argument.0) argument.1

-- a message from its contents on
unfoldable pub objects_at : Dictionaries → World → Format → ℕ → List ℕ → List ℕ → Result Message ℕ
objects_at d w f n ids bytes = do
  os ← contents_at d f ids 0 ids bytes
  tail ← tail_at d w f n ids os.0 os.1
  Ok (record { ids = ids; objects = os.0; root = tail.0; argument = tail.1 })

-- A message was read whole: its objects were added, or do not fit. At a bad field, and where they do not
-- fit, some objects were added.
abbrev pub ReadsWhole : Dictionaries → World → Contents → Result Message ℕ → Result (Option Ready) ℕ → Contents → Type 0
ReadsWhole d w old read (Ok (Some ready)) new =
    (m : Message) × (read ≡ Ok m) × Adds old new m × (ready ≡ ready_behind (length old.objects) m) × AreThere new.objects ready × StandsAt d w new.objects ready
ReadsWhole d w old read (Ok None) new = (m : Message) × (read ≡ Ok m) × (old.left < units_in m.objects) × Extends old new
ReadsWhole d w old read (Err e) new = (read ≡ Err e) × Extends old new
