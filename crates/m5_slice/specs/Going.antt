-- A slice goes on as the program that it is of: typed states and items are read back to themselves.
use Rattle.std.specs.Prelude.{◌≡◌, ◌≢◌}
use Rattle.m5_terms.specs.Matching.{Reading, Matches, Meeting, AreMet}
use Rattle.m5_terms.specs.Playing.{PlaysAlwaysFully}
use Rattle.m5_terms.specs.Related.{AskReads, AnswerReads}
use Rattle.m5_terms.specs.declared.types.World.{World}
use Rattle.m5_terms.specs.declared.types.World.TheVariants.{Any}
use Rattle.m5_flat.specs.Blocks.{Blocks}
use Rattle.m5_flat.specs.Values.{Site}
use Rattle.m5_flat.specs.Running.{ran}
use Rattle.m5_flat.specs.Machine.{flat_machine, flat_moments, opening_site, opening_threads}
use Rattle.m5_flat.specs.Moments.{IsMet}
use Rattle.m5_flat.specs.Program.{IsProgram}
use Rattle.m5_slice.specs.Slicing.{cut}
use Rattle.m5_slice.specs.Machine.{IsTyped, typed_machine}

-- the same state, where it is typed
pub record ReadsTyped (B : Blocks) (d : IsProgram B) (w : World) (t s : Site) : Type 0 where
  pub same : t ≡ s
  pub typed : IsTyped B d w s

abbrev pub itself : (B : Blocks) (d : IsProgram B) (C : Blocks) (w : World) → Reading (typed_machine B d w) (flat_machine C w)
itself B d C w = record { state = ReadsTyped B d w; ask = AskReads (λ v i j. i ≡ j); answer = AnswerReads (λ i j. i ≡ j) }

-- as many blocks entered, and the same units, threads, cells and handlers
abbrev pub met : (B : Blocks) (d : IsProgram B) (C : Blocks) (w : World) → Meeting (typed_machine B d w) (flat_machine C w) (flat_moments B w) (flat_moments C w)
met B d C w = λ t m s x. IsMet t (ran C w t) s (ran B w s) m x

-- at the world the site of the slice C begins as that of B. In each typed state its front thread's block makes the same objects
-- and ends alike; so it goes on and asks as B's, and meets it at each moment, and with no other way out it plays along with it
-- from the opening, whatever typed answers come
pub record GoesOnAs (B : Blocks) (d : IsProgram B) (C : Blocks) (w : World) : Type 0 where
  pub opens : ReadsTyped B d w (opening_site (opening_threads C w)) (opening_site (opening_threads B w))
  pub same : (s : Site) → IsTyped B d w s → ran C w s ≡ ran B w s
  pub matches : Matches (typed_machine B d w) (flat_machine C w) (itself B d C w)
  pub meets : AreMet (typed_machine B d w) (flat_machine C w) (itself B d C w) (flat_moments B w) (flat_moments C w) (met B d C w)
  pub plays : PlaysAlwaysFully (typed_machine B d w) (flat_machine C w) (itself B d C w) (flat_moments B w) (flat_moments C w) (met B d C w)
      (opening_site (opening_threads C w)) (opening_site (opening_threads B w))

abbrev pub SlicedGoOn : Type 0
SlicedGoOn = (B : Blocks) (d : IsProgram B) (w : World) → w ≢ Any → GoesOnAs B d (cut w B) w
