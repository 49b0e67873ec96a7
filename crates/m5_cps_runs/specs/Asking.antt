-- How a site of a program's blocks asks and goes on.
use Rattle.std.specs.Prelude.{ℕ, List, map}
use Rattle.m5_terms.specs.Machine.{Machine, Exchange, Behaves, Comes}
use Rattle.m5_terms.specs.declared.ask.AskOf.{AskOf}
use Rattle.m5_terms.specs.declared.ask.AnswerOf.{AnswerOf}
use Rattle.m5_terms.specs.declared.types.World.{World}
use Rattle.m5_typing.specs.Program.{ProgramTerm}
use Rattle.m5_cps.specs.Captured.{Item, Site}
use Rattle.m5_cps.specs.Machine.{blocks_machine, opening_site, opening_threads}
use Rattle.m5_cps_convert.specs.Convert.{program_blocks}

abbrev pub machine_of : ProgramTerm → World → Machine
machine_of P u = blocks_machine (program_blocks P) u

abbrev pub opening : ProgramTerm → World → Site
opening P u = opening_site (opening_threads (program_blocks P) u)

-- an ask with its answer
pub data Deed : Type 0 where
  gets : AskOf Item → AnswerOf Item → Deed

abbrev pub exchange : (P : ProgramTerm) (u : World) → Deed → Exchange (machine_of P u)
exchange P u (gets q r) = record { ask = q; answer = r }

-- the site asks these in this order, gets these answers, and comes to a state by local steps
pub record Reaches (P : ProgramTerm) (u : World) (from : Site) (deeds : List Deed) (to : Site) : Type 0 where
  pub answered : Site
  pub behaves : Behaves (machine_of P u) (map (exchange P u) deeds) from answered
  pub steps : ℕ
  pub comes : Comes (machine_of P u).next steps answered to
