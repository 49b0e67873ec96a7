-- Hoisted blocks go on as those that they are made of: states and items are read back to themselves.
use Rattle.std.specs.Prelude.{◌≡◌}
use Rattle.m5_terms.specs.Matching.{Reading, Matches, Meeting, AreMet}
use Rattle.m5_terms.specs.Related.{AskReads, AnswerReads}
use Rattle.m5_terms.specs.declared.types.World.{World}
use Rattle.m5_flat.specs.Blocks.{Blocks}
use Rattle.m5_flat.specs.Running.{ran}
use Rattle.m5_flat.specs.Machine.{flat_machine, flat_moments, opening_site, opening_threads}
use Rattle.m5_flat.specs.Moments.{IsMet}

abbrev pub itself : (B C : Blocks) (u : World) → Reading (flat_machine B u) (flat_machine C u)
itself B C u = record { state = λ t s. t ≡ s; ask = AskReads (λ v i j. i ≡ j); answer = AnswerReads (λ i j. i ≡ j) }

-- as many blocks entered, and the same units, threads, cells and handlers
abbrev pub met : (B C : Blocks) (u : World) → Meeting (flat_machine B u) (flat_machine C u) (flat_moments B u) (flat_moments C u)
met B C u = λ t m s x. IsMet t (ran C u t) s (ran B u s) m x

-- at each world the site of the blocks C begins as that of B, goes on and asks as it does, and meets it at each moment
pub record GoesOnAs (B C : Blocks) : Type 0 where
  pub opens : (u : World) → opening_site (opening_threads C u) ≡ opening_site (opening_threads B u)
  pub matches : (u : World) → Matches (flat_machine B u) (flat_machine C u) (itself B C u)
  pub meets : (u : World) → AreMet (flat_machine B u) (flat_machine C u) (itself B C u) (flat_moments B u) (flat_moments C u) (met B C u)

abbrev pub HoistedGoOn : Type 0
HoistedGoOn = (B : Blocks) → GoesOnAs B B
