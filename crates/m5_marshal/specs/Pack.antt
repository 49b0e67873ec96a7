-- What packing answers.
use Rattle.std.specs.Prelude.{◌≡◌, ℕ, List}
use Rattle.m5_region.specs.declared.value.Value.TheVariants.{Array}
use Rattle.m5_region.specs.declared.queue.Ready.{Ready}
use Rattle.m5_region.specs.Region.{Object}
use Rattle.m5_terms.specs.declared.types.World.{World}
use Rattle.m5_dictionary.specs.Dictionaries.{Dictionaries}
use Rattle.m5_message.specs.Packing.{Sending, IsSendable, packed}

-- the closure's number and the argument are those of the thread
abbrev pub IsThread : Ready → Sending → Type 0
IsThread thread t = (thread.code ≡ Array (record { 0 = t.code.at })) × (thread.argument ≡ t.argument)

-- the thread has bytes at some world
abbrev pub HasBytes : Dictionaries → List Object → Ready → Type 0
HasBytes d os thread = (w : World) × (t : Sending) × IsThread thread t × IsSendable d w os t

-- the bytes are those that are sent for the thread, at each world at which it has any
abbrev pub Packs : Dictionaries → List ℕ → List Object → Ready → List ℕ → Type 0
Packs d seal os thread bytes = (w : World) (t : Sending) → IsThread thread t → IsSendable d w os t → bytes ≡ packed d w seal os t
