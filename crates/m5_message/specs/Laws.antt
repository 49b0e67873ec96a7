-- The laws of messages.
use Rattle.std.specs.Prelude.{◌≡◌, ℕ, ◌≤◌, List, [], ◌++◌, length, map, Ok}
use Rattle.m5_region.specs.Region.{Object, units_in}
use Rattle.m5_terms.specs.declared.types.World.{World}
use Rattle.m5_dictionary.specs.Dictionaries.{Dictionaries, IsDictionaries}
use Rattle.m5_message.specs.Message.{Message, message_at}
use Rattle.m5_message.specs.Tree.{grown, Stands}
use Rattle.m5_message.specs.Packing.{Sending, IsSendable, packed, thread_tree}
use Rattle.m5_message.specs.Sharing.{shifted_object, thread_units}

-- What is sent stands for the thread, at each world at which it has bytes.
abbrev pub StandsAgain : Type 0
StandsAgain =
    (d : Dictionaries) (w : World) (seal : List ℕ) (os : List Object) (t : Sending) → IsDictionaries d → length seal ≡ 8 → IsSendable d w os t → Stands d w seal (packed d w seal os t) (thread_tree os t)

-- The objects of what is sent take no more units than the closure and the argument as trees.
abbrev pub ArrivesLight : Type 0
ArrivesLight =
    (d : Dictionaries) (w : World) (seal : List ℕ) (os : List Object) (t : Sending) → IsDictionaries d → length seal ≡ 8 → IsSendable d w os t →
    (m : Message) × (message_at d w seal (packed d w seal os t) ≡ Ok m) × (units_in m.objects ≤ thread_units (thread_tree os t))

-- A message's objects stand for the same trees behind other objects, whose own trees stay.
abbrev pub StandsBehind : Type 0
StandsBehind = (older os : List Object) → grown [] (older ++ map (shifted_object (length older)) os) ≡ grown [] older ++ grown [] os
