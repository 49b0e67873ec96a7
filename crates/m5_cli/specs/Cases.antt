-- The cases of an input that was read whole, each with the text that is due in it.
use Rattle.std.specs.Prelude.{◌≡◌, ◌≤◌, ℕ, List, length, codes, Err}
use Rattle.m5_tree.specs.declared.tree.Tree.{Tree}
use Rattle.m5_raw.specs.RawTerm.{RawTerm}
use Rattle.m5_typing.specs.Program.{ProgramTerm}
use Rattle.m5_front.specs.Refusal.{HasFault}
use Rattle.m5_front.specs.declared.refusal.Refusal.{Refusal}
use Rattle.m5_script.specs.Script.{Fault, script_of}
use Rattle.m5_cli.specs.First.{IsFirst, IsRunTrace}
use Rattle.m5_cli.specs.Input.{parts_of}
use Rattle.m5_cli.specs.Reference.{IsReferenceTrace}
use Rattle.m5_cli.specs.Refusal.{refusal_line, script_line, status_of}
use Rattle.m5_cli.specs.Replaying.{IsVerdictText, replayed_script, replayed_trace}
use Rattle.m5_cli.specs.Taken.{Accepts, HasProgram, HasScript, input_limit}
use Rattle.m5_cli.specs.declared.status.Status.{Status}

-- an accepted program, whatever its script
pub record IsChecked (input text : List ℕ) : Type 0 where
  pub source : HasProgram input
  pub line : text ≡ codes "accepted\n"

-- a program and a script of the first form, and the trace of their run
pub record IsTraceOf (input text : List ℕ) : Type 0 where
  pub given : HasScript input (parts_of input).script
  pub first : IsFirst (parts_of input).script given.scenario given.tree given.program
  pub runs : IsRunTrace given.program given.scenario text

-- a program and a script, of which one is not of the first form
pub record IsUnbuilt (input text : List ℕ) : Type 0 where
  pub given : HasScript input (parts_of input).script
  pub other : IsFirst (parts_of input).script given.scenario given.tree given.program → ⊥
  pub line : text ≡ codes "refused unbuilt\n"

-- a program and a script, and the trace of their reference run, which ends with this status
pub record IsReferenceOf (meant : Status) (input text : List ℕ) : Type 0 where
  pub given : HasScript input (parts_of input).script
  pub runs : IsReferenceTrace meant given.program given.scenario text

-- a program and a script, and the verdict on a trace, which has this status
pub record IsReplay (meant : Status) (input text : List ℕ) : Type 0 where
  pub given : HasScript input (replayed_script input)
  pub verdict : IsVerdictText meant given.program given.scenario (replayed_trace input) text

-- an accepted program, and a script text with this first bad line
pub record IsBadScript (input script_text text : List ℕ) : Type 0 where
  pub source : HasProgram input
  pub bad : Fault
  pub script : script_of script_text ≡ Err bad
  pub line : text ≡ script_line bad.line bad.kind

-- a program text with a fault whose status this is, so that it is not accepted
pub record IsRefusal (meant : Status) (input text : List ℕ) : Type 0 where
  pub short : length input ≤ input_limit
  pub refusal : Refusal
  pub cause : HasFault (parts_of input).program refusal.fault refusal.place
  pub not_accepted : (tree : Tree) (raw : RawTerm) (program : ProgramTerm) → Accepts input tree raw program → ⊥
  pub status : status_of refusal.fault ≡ meant
  pub line : text ≡ refusal_line refusal
