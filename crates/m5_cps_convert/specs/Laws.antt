-- The laws of the conversion.
use Rattle.std.specs.Prelude.{◌+◌, ◌≤◌, ◌*◌}
use Rattle.m5_terms.specs.Matching.{Matches, AreMet}
use Rattle.m5_terms.specs.Playing.{PlaysAlways, PlaysAlwaysFully}
use Rattle.m5_terms.specs.Worlds.{IsSiteWorld}
use Rattle.m5_terms.specs.declared.types.World.{World}
use Rattle.m5_typing.specs.Program.{ProgramTerm, IsProgram, program_nodes}
use Rattle.m5_meaning.specs.Site as meaning
use Rattle.m5_meaning.specs.Opening as meaning_opening
use Rattle.m5_site_sound.specs.SourceMachine.{source_machine}
use Rattle.m5_cps.specs.Blocks.{Blocks}
use Rattle.m5_cps.specs.Captured.{Site, Thread, value_units}
use Rattle.m5_cps.specs.Values.{thread}
use Rattle.m5_cps.specs.Units.{thread_units}
use Rattle.m5_cps.specs.Machine.{blocks_machine, blocks_moments, opening_site, opening_threads}
use Rattle.m5_cps.specs.Program as blocks
use Rattle.m5_cps_convert.specs.Convert.{program_blocks}
use Rattle.m5_cps_convert.specs.Threads.{ReadsItem, ReadsState}
use Rattle.m5_cps_convert.specs.Counted.{block_count}
use Rattle.m5_cps_convert.specs.Moments.{readback, readback_of, source_moments, paid, paid_of}

-- at each world the blocks of a program go on as the program does
abbrev pub BlocksMatch : Type 0
BlocksMatch = (P : ProgramTerm) (u : World) → IsProgram P → IsSiteWorld u → Matches (source_machine P u) (blocks_machine (program_blocks P) u) (readback P u)

-- whenever they enter a block or make an object, the source comes by local steps to a state that pays for it
abbrev pub BlocksArePaid : Type 0
BlocksArePaid =
    (P : ProgramTerm) (u : World) → IsProgram P → IsSiteWorld u →
    AreMet (source_machine P u) (blocks_machine (program_blocks P) u) (readback P u) (source_moments P u) (blocks_moments (program_blocks P) u) (paid P u)

-- so they play along with the source, from each state that is read back, whatever lawful answers it gets
abbrev pub BlocksPlay : Type 0
BlocksPlay =
    (P : ProgramTerm) (u : World) (t : Site) (s : meaning.Site) → IsProgram P → IsSiteWorld u → ReadsState P u t s →
    PlaysAlways (source_machine P u) (blocks_machine (program_blocks P) u) (readback P u) (source_moments P u) (blocks_moments (program_blocks P) u) (paid P u) t s

-- each site of blocks begins as the source's
abbrev pub BlocksOpen : Type 0
BlocksOpen =
    (P : ProgramTerm) (u : World) → IsProgram P → IsSiteWorld u →
    ReadsState P u (opening_site (opening_threads (program_blocks P) u)) (meaning_opening.opening_site (meaning_opening.opening_threads P u))

-- from there they play along with it with no other way out: they are never wrong, since the source is not
abbrev pub OpeningsPlayFully : Type 0
OpeningsPlayFully =
    (P : ProgramTerm) (u : World) → IsProgram P → IsSiteWorld u →
    PlaysAlwaysFully (source_machine P u) (blocks_machine (program_blocks P) u) (readback P u) (source_moments P u) (blocks_moments (program_blocks P) u) (paid P u)
    (opening_site (opening_threads (program_blocks P) u)) (meaning_opening.opening_site (meaning_opening.opening_threads P u))

-- what is sent, and so what arrives, takes at most four times the size of the source's thread
abbrev pub SentIsLight : Type 0
SentIsLight = (P : ProgramTerm) (v : World) (t : Thread) (s : meaning.Thread) → ReadsItem P v (thread t) (meaning.thread s) → thread_units value_units t ≤ 4 * meaning.thread_size s

-- the blocks are typed, their endings nest little, and they have few slots
abbrev pub BlocksFit : Type 0
BlocksFit = (P : ProgramTerm) → IsProgram P → blocks.IsProgram (program_blocks P)

-- at most three blocks a node, and one for main
abbrev pub BlocksAreFew : Type 0
BlocksAreFew = (P : ProgramTerm) → block_count (program_blocks P) ≤ 3 * program_nodes P + 1

-- the blocks B go on as the program: from its opening each site of them plays along with the program's, whatever lawful answers
-- that gets, is never wrong, and each of its moments is paid for
abbrev pub GoesOnAs : ProgramTerm → Blocks → Type 0
GoesOnAs P B =
    (u : World) → IsSiteWorld u →
    PlaysAlwaysFully (source_machine P u) (blocks_machine B u) (readback_of P B u) (source_moments P u) (blocks_moments B u) (paid_of P B u)
    (opening_site (opening_threads B u)) (meaning_opening.opening_site (meaning_opening.opening_threads P u))

abbrev pub IsFewFor : ProgramTerm → Blocks → Type 0
IsFewFor P B = block_count B ≤ 3 * program_nodes P + 1
