-- The laws of passes whose output goes on as their input does.
use Rattle.m5_terms.specs.Machine.{Machine, IsSound}
use Rattle.m5_terms.specs.Matching.{Reading, then_reads, Matches, Moments, Meeting, then_meets, AreMet}
use Rattle.m5_terms.specs.Playing.{PlaysAlways, PlaysAlwaysFully}
use Rattle.m5_terms.specs.Related.{Asking, asking_machine, reads_items, through, state_through}
use Rattle.m5_terms.specs.declared.types.World.{World}

module _ (S T : Machine) (R : Reading S T) (X : Moments S) (Y : Moments T) (E : Meeting S T X Y) where
  -- from each state to which one of the output is read back
  abbrev pub PlaysFromEach : Type 0
  PlaysFromEach = (t : T.State) (s : S.State) → R.state t s → PlaysAlways S T R X Y E t s

  -- what plays always with a sound state does so with no other way out
  abbrev pub SoundIsPlayedFully : Type 0
  SoundIsPlayedFully =
      (t : T.State) (s : S.State) → IsSound S s → PlaysAlways S T R X Y E t s →
      PlaysAlwaysFully S T R X Y E t s

module _ (A B C : Machine) (R : Reading A B) (Q : Reading B C) where
  -- two passes that match, one after the other, match
  abbrev pub BothMatch : Type 0
  BothMatch = Matches A B R → Matches B C Q → Matches A C (then_reads A B C R Q)

  -- and the moments of the last are met by those of the first
  abbrev pub BothMeet : (X : Moments A) (Y : Moments B) (Z : Moments C) → Meeting A B X Y → Meeting B C Y Z → Type 0
  BothMeet X Y Z E F =
      Matches A B R → AreMet A B R X Y E → AreMet B C Q Y Z F →
      AreMet A C (then_reads A B C R Q) X Z (then_meets A B C X Y Z E F)

-- which states, and which items at each world, of sites those of others are read back to
abbrev pub States : Asking → Asking → Type 1
States S T = T.State → S.State → Type 0

abbrev pub Items : Asking → Asking → Type 1
Items S T = World → T.Item → S.Item → Type 0

-- at each world two passes over sites of different items match by the items between
abbrev pub ItemPassesMatch : (A B C : Asking) → States A B → States B C → Items A B → Items B C → Type 0
ItemPassesMatch A B C Q R I J =
    (w : World) → Matches (asking_machine A) (asking_machine B) (reads_items A B Q I w) →
    Matches (asking_machine B) (asking_machine C) (reads_items B C R J w) →
    Matches (asking_machine A) (asking_machine C) (reads_items A C (state_through Q R) (through I J) w)
