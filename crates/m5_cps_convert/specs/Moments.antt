-- When a site of blocks is paid for by one of the source, so that no stop of it comes sooner than the source's.
use Rattle.std.specs.Prelude.{◌≡◌, ℕ, ◌+◌, ◌≤◌, ◌*◌, length}
use Rattle.std.proofs.Common.{inl, inr}
use Rattle.m5_terms.specs.Matching.{Reading, Moments, Meeting}
use Rattle.m5_terms.specs.Related.{AskReads, AnswerReads}
use Rattle.m5_terms.specs.declared.types.World.{World}
use Rattle.m5_typing.specs.Program.{ProgramTerm}
use Rattle.m5_meaning.specs.Site as meaning
use Rattle.m5_meaning.specs.Step as meaning_step
use Rattle.m5_site_sound.specs.SourceMachine.{source_machine}
use Rattle.m5_cps.specs.Blocks.{Blocks}
use Rattle.m5_cps.specs.Captured.{Site}
use Rattle.m5_cps.specs.Deeds.{Point}
use Rattle.m5_cps.specs.Running.{ran}
use Rattle.m5_cps.specs.Machine.{blocks_machine, blocks_moments, point_of}
use Rattle.m5_cps_convert.specs.Convert.{program_blocks}
use Rattle.m5_cps_convert.specs.Threads.{ReadsItem, ReadsState}

-- of blocks B at the world u: states, asks by what their items are read back to where they go, and answers by what theirs are here
abbrev pub readback_of : (P : ProgramTerm) (B : Blocks) (u : World) → Reading (source_machine P u) (blocks_machine B u)
readback_of P B u = record { state = ReadsState P u; ask = AskReads (ReadsItem P); answer = AnswerReads (ReadsItem P u) }

abbrev pub readback : (P : ProgramTerm) (u : World) → Reading (source_machine P u) (blocks_machine (program_blocks P) u)
readback P u = readback_of P (program_blocks P) u

-- what stands where a site is about to enter a block
abbrev pub entry_point : Site → Point
entry_point t = record { units = t.units; threads = length t.threads; cells = length t.cells; handlers = length t.handlers }

-- what stands at a moment: at an entry, or with the object that is about to be made
abbrev pub moment_point : (B : Blocks) (u : World) (t : Site) → blocks_moments B u t → Point
moment_point B u t (inl entry) = entry_point t
moment_point B u t (inr object) = point_of (ran B u t) object

-- each state of the source is a moment
abbrev pub source_moments : (P : ProgramTerm) (u : World) → Moments (source_machine P u)
source_moments P u = λ s. Unit {0}

-- the source has made as many steps as blocks were entered, its weight pays with its next step for the units, and there are as
-- many threads, cells and handlers
pub record IsPaid (P : ProgramTerm) (u : World) (entered : ℕ) (p : Point) (s : meaning.Site) : Type 0 where
  pub steps : entered ≤ s.steps
  pub units : p.units ≤ 4 * (s.weight + meaning_step.next_weight P s (meaning_step.site_next P u s)) + 64
  pub threads : p.threads ≡ length s.threads
  pub cells : p.cells ≡ length s.cells
  pub handlers : p.handlers ≡ length s.handlers

abbrev pub paid_of : (P : ProgramTerm) (B : Blocks) (u : World) → Meeting (source_machine P u) (blocks_machine B u) (source_moments P u) (blocks_moments B u)
paid_of P B u = λ t m s x. IsPaid P u t.entered (moment_point B u t m) s

abbrev pub paid : (P : ProgramTerm) (u : World) → Meeting (source_machine P u) (blocks_machine (program_blocks P) u) (source_moments P u) (blocks_moments (program_blocks P) u)
paid P u = paid_of P (program_blocks P) u
