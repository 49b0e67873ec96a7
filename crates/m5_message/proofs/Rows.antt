-- Worked rows: messages of a closure of label 5 without environment and a unit, and their bad fields.
use Rattle.std.proofs.Common.{◌≡◌, ℕ, List, [], ◌∷◌, ◌++◌, Result, Ok, Err, refl, pos}
use Rattle.m5_region.specs.declared.value.Value.TheVariants as values
use Rattle.m5_region.specs.Region.{ArrayOf}
use Rattle.m5_terms.specs.declared.types.World.TheVariants.{Home, Server}
use Rattle.m5_dictionary.specs.declared.line.TypeLine.TheVariants as lines
use Rattle.m5_dictionary.specs.Dictionaries.{Dictionaries, Entrance}
use Rattle.m5_message.specs.Numbers.{groups, short}
use Rattle.m5_message.specs.Reading.{value_at, values_at, opening_at, content_at, contents_at, ids_at}
use Rattle.m5_message.specs.Message.{Message, Fault, NoSeal, BadField, body_at, version_at, message_at}
use Rattle.m5_message.specs.Spelling.{groups_of, short_of, values_bytes, contents_bytes, body_bytes, message_bytes}

at_home : Entrance
at_home = record { world = Home; argument = 0; environment = [] }

there : Dictionaries
there = record { types = lines.Unit ∷ lines.Fun 0 ∷ []; labels = at_home ∷ at_home ∷ at_home ∷ at_home ∷ at_home ∷ record { world = Server; argument = 0; environment = [] } ∷ [] }

seal : List ℕ
seal = 77 ∷ 76 ∷ 53 ∷ 115 ∷ 0 ∷ 0 ∷ 0 ∷ 1 ∷ []

reads : List ℕ → Result Message Fault
reads bytes = message_at there Server seal (seal ++ bytes)

closure : Message
closure = record { ids = 1 ∷ []; objects = ArrayOf (values.Int (pos 5) ∷ []) ∷ []; root = 0; argument = values.Null }

second : reads (2 ∷ 1 ∷ 0 ∷ 0 ∷ 0 ∷ 1 ∷ 5 ∷ 1 ∷ []) ≡ Ok closure
unfolding reads message_at version_at body_at ids_at contents_at content_at opening_at values_at value_at short groups there seal closure at_home
second = refl

spelled : message_bytes there Server seal closure ≡ seal ++ 2 ∷ 1 ∷ 0 ∷ 0 ∷ 0 ∷ 1 ∷ 5 ∷ 1 ∷ []
unfolding body_bytes contents_bytes values_bytes short_of groups_of there seal closure at_home
spelled = refl

cut_8 : reads [] ≡ Err (BadField 8)
unfolding reads message_at version_at seal
cut_8 = refl

cut_9 : reads (2 ∷ []) ≡ Err (BadField 9)
unfolding reads message_at version_at body_at short groups seal
cut_9 = refl

cut_13 : reads (2 ∷ 1 ∷ 0 ∷ 0 ∷ 0 ∷ []) ≡ Err (BadField 10)
unfolding reads message_at version_at body_at ids_at short groups seal
cut_13 = refl

cut_14 : reads (2 ∷ 1 ∷ 0 ∷ 0 ∷ 0 ∷ 1 ∷ []) ≡ Err (BadField 14)
unfolding reads message_at version_at body_at ids_at contents_at content_at opening_at short groups there seal at_home
cut_14 = refl

cut_15 : reads (2 ∷ 1 ∷ 0 ∷ 0 ∷ 0 ∷ 1 ∷ 5 ∷ []) ≡ Err (BadField 15)
unfolding reads message_at version_at body_at ids_at contents_at content_at opening_at values_at short groups there seal at_home
cut_15 = refl

one_more : reads (2 ∷ 1 ∷ 0 ∷ 0 ∷ 0 ∷ 1 ∷ 5 ∷ 1 ∷ 0 ∷ []) ≡ Err (BadField 16)
unfolding reads message_at version_at body_at ids_at contents_at content_at opening_at values_at value_at short groups there seal at_home
one_more = refl

last_2 : reads (2 ∷ 1 ∷ 0 ∷ 0 ∷ 0 ∷ 1 ∷ 5 ∷ 2 ∷ []) ≡ Err (BadField 15)
unfolding reads message_at version_at body_at ids_at contents_at content_at opening_at values_at short groups there seal at_home
last_2 = refl

long_count : reads (2 ∷ 129 ∷ 0 ∷ []) ≡ Err (BadField 9)
unfolding reads message_at version_at body_at short groups seal
long_count = refl

version_1 : reads (1 ∷ 1 ∷ []) ≡ Err (BadField 8)
unfolding reads message_at version_at seal
version_1 = refl

first : reads (0 ∷ 0 ∷ 0 ∷ 1 ∷ 0 ∷ 0 ∷ 0 ∷ 1 ∷ 0 ∷ 5 ∷ 0 ∷ 0 ∷ 0 ∷ 0 ∷ []) ≡ Ok closure
unfolding reads message_at version_at body_at ids_at contents_at content_at opening_at values_at value_at there seal closure at_home
first = refl

first_last_1 : reads (0 ∷ 0 ∷ 0 ∷ 1 ∷ 0 ∷ 0 ∷ 0 ∷ 1 ∷ 0 ∷ 5 ∷ 0 ∷ 0 ∷ 0 ∷ 1 ∷ []) ≡ Err (BadField 18)
unfolding reads message_at version_at body_at ids_at contents_at content_at opening_at values_at value_at there seal closure at_home
first_last_1 = refl

first_id_0 : reads (0 ∷ 0 ∷ 0 ∷ 1 ∷ 0 ∷ 0 ∷ 0 ∷ 0 ∷ 0 ∷ 5 ∷ 0 ∷ 0 ∷ 0 ∷ 0 ∷ []) ≡ Err (BadField 12)
unfolding reads message_at version_at body_at ids_at there seal at_home
first_id_0 = refl

other_seal : message_at there Server seal (77 ∷ 76 ∷ []) ≡ Err NoSeal
unfolding message_at seal
other_seal = refl
