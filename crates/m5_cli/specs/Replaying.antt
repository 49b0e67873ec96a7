-- The job `replay`: the parts of its input, and what it writes of a verdict.
use Rattle.std.specs.Prelude.{◌≡◌, ℕ, List, ◌++◌, codes}
use Rattle.std.specs.Fmt.{decimal}
use Rattle.m5_typing.specs.Program.{ProgramTerm}
use Rattle.m5_script.specs.Scenario.{Scenario}
use Rattle.m5_replay.specs.Verdicts.{IsVerdict}
use Rattle.m5_replay.specs.declared.verdict.Verdict.{Verdict}
use Rattle.m5_replay.specs.declared.verdict.Verdict.TheVariants.{Yes, No, Spent}
use Rattle.m5_cli.specs.Input.{parts_of}
use Rattle.m5_cli.specs.declared.status.Status.{Status}
use Rattle.m5_cli.specs.declared.status.Status.TheVariants as status

-- after the first dividing line a script text, and after a second one a trace, which is empty where there is none
abbrev pub replayed_script : List ℕ → List ℕ
replayed_script input = (parts_of (parts_of input).script).program

abbrev pub replayed_trace : List ℕ → List ℕ
replayed_trace input = (parts_of (parts_of input).script).script

-- that the trace is one, or the line at which it is none, or the line that needs more than the budget
abbrev pub verdict_line : Verdict → List ℕ
verdict_line Yes = codes "yes\n"
verdict_line (No number) = codes "no " ++ decimal number ++ codes "\n"
verdict_line (Spent number) = codes "spent " ++ decimal number ++ codes "\n"

abbrev pub verdict_status : Verdict → Status
verdict_status Yes = status.Rest
verdict_status (No number) = status.Refuted
verdict_status (Spent number) = status.Unsettled

-- the text is the line of the verdict on the trace, and the status is that verdict's
pub record IsVerdictText (meant : Status) (program : ProgramTerm) (scenario : Scenario) (trace text : List ℕ) : Type 0 where
  pub verdict : Verdict
  pub holds : IsVerdict program scenario trace verdict
  pub status : meant ≡ verdict_status verdict
  pub line : text ≡ verdict_line verdict
