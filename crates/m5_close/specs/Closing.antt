-- Closed blocks go on as those that they are made of.
use Rattle.std.specs.Prelude.{◌≡◌, ℕ, List, Some, slice_get}
use Rattle.m5_terms.specs.Machine.{Machine}
use Rattle.m5_terms.specs.Matching.{Reading, then_reads, Matches, Moments, Meeting, then_meets, AreMet}
use Rattle.m5_terms.specs.Playing.{PlaysAlwaysFully}
use Rattle.m5_terms.specs.Related.{AskReads, AnswerReads}
use Rattle.m5_terms.specs.declared.types.World.{World}
use Rattle.m5_cps.specs.Blocks as cps
use Rattle.m5_cps.specs.Running as cps_running
use Rattle.m5_cps.specs.Machine.{blocks_machine, blocks_moments}
use Rattle.m5_cps.specs.Machine as cps_machine
use Rattle.m5_cps.specs.Program.{setting_of, IsProgram}
use Rattle.m5_flat.specs.Blocks.{Block, Blocks}
use Rattle.m5_flat.specs.Running.{ran}
use Rattle.m5_flat.specs.Machine.{flat_machine, flat_moments, opening_site, opening_threads}
use Rattle.m5_flat.specs.Moments.{IsMet}
use Rattle.m5_typing.specs.Context.{Setting}
use Rattle.m5_cps_typing.specs.Rows.{Kinds}
use Rattle.m5_cps.specs.Entries.{Entry}
use Rattle.m5_cps.specs.Captured.{captured}
use Rattle.m5_cps.specs.Limits.{IsLimited}
use Rattle.m5_flat.specs.Limits as flat_limits
use Rattle.m5_flat.specs.Program as flat_program
use Rattle.m5_close.specs.Close.{IsBlockOf, IsClosed}
use Rattle.m5_close.specs.Reading.{ReadsItem, ReadsSite}

-- sites and items are read back, at each world alike
abbrev pub closing : (C : cps.Blocks) (B : Blocks) (functions : List ℕ) (u : World) → Reading (blocks_machine C u) (flat_machine B u)
closing C B functions u = record { state = ReadsSite (setting_of C) B functions; ask = AskReads (λ v i j. ReadsItem (setting_of C) B functions i j); answer = AnswerReads (ReadsItem (setting_of C) B functions) }

-- as many blocks entered, and the same units, threads, cells and handlers
abbrev pub met : (C : cps.Blocks) (B : Blocks) (u : World) → Meeting (blocks_machine C u) (flat_machine B u) (blocks_moments C u) (flat_moments B u)
met C B u = λ t m s x. IsMet t (ran B u t) s (cps_running.ran C u s) m x

-- at each world the site of the blocks B begins as that of C, goes on and asks as it does, and meets it at each moment
pub record GoesOnAs (C : cps.Blocks) (B : Blocks) : Type 0 where
  pub functions : List ℕ
  pub opens : (u : World) → ReadsSite (setting_of C) B functions (opening_site (opening_threads B u)) (cps_machine.opening_site (cps_machine.opening_threads C u))
  pub matches : (u : World) → Matches (blocks_machine C u) (flat_machine B u) (closing C B functions u)
  pub meets : (u : World) → AreMet (blocks_machine C u) (flat_machine B u) (closing C B functions u) (blocks_moments C u) (flat_moments B u) (met C B u)

abbrev pub ClosedGoOn : Type 0
ClosedGoOn = (C : cps.Blocks) (B : Blocks) → IsProgram C → IsClosed C B → GoesOnAs C B

-- what always plays fully with a site of blocks, as a program does with that of its conversion, does so with the site of closed ones
module _ (C : cps.Blocks) (u : World) (S : Machine) (R : Reading S (blocks_machine C u)) (X : Moments S) (E : Meeting S (blocks_machine C u) X (blocks_moments C u)) where
  abbrev pub ClosedPlaysFully : Type 0
  ClosedPlaysFully =
      (B : Blocks) (g : GoesOnAs C B) (a : S.State) →
      PlaysAlwaysFully S (blocks_machine C u) R X (blocks_moments C u) E (cps_machine.opening_site (cps_machine.opening_threads C u)) a →
      PlaysAlwaysFully S (flat_machine B u) (then_reads S (blocks_machine C u) (flat_machine B u) R (closing C B g.functions u)) X (flat_moments B u)
      (then_meets S (blocks_machine C u) (flat_machine B u) X (blocks_moments C u) (flat_moments B u) E (met C B u)) (opening_site (opening_threads B u)) a

-- a closed block is within the limits where the one that it is made of is
abbrev pub ClosedAreLimited : Type 0
ClosedAreLimited =
    (E : Setting) (B : Blocks) (functions : List ℕ) (i : ℕ) (y : Entry) (τ : Kinds) (n : ℕ) (c : cps.Code) → IsBlockOf E B functions i y τ n c →
    (b : Block) → slice_get B.table i ≡ Some b → IsLimited (captured n c) y c → flat_limits.IsLimited b

-- the closed blocks are a program of blocks under labels: typed, and within the limits
abbrev pub ClosedIsProgram : Type 0
ClosedIsProgram = (C : cps.Blocks) (B : Blocks) → IsProgram C → IsClosed C B → flat_program.IsProgram B
