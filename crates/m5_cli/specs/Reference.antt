-- The trace of a reference run, and the status with which it ends.
use Rattle.std.specs.Prelude.{◌≡◌, ℕ, List}
use Rattle.m5_terms.specs.declared.ask.History.{History}
use Rattle.m5_terms.specs.declared.ask.End.{End}
use Rattle.m5_terms.specs.declared.ask.End.TheVariants as end
use Rattle.m5_typing.specs.Program.{ProgramTerm}
use Rattle.m5_script.specs.Scenario.{Scenario}
use Rattle.m5_script.specs.Trace.{trace_of}
use Rattle.m5_reference.specs.Budget.{with_lesser_budget}
use Rattle.m5_reference.specs.Reference.{IsReferenceRun}
use Rattle.m5_cli.specs.declared.status.Status.{Status}
use Rattle.m5_cli.specs.declared.status.Status.TheVariants as status

-- at rest where no site stopped, and stopped where so many did
abbrev pub EndsWith : Status → End → Type 0
EndsWith status.Rest e = e ≡ end.Rest
EndsWith status.Stopped e = (count : ℕ) × (e ≡ end.Stopped count)
EndsWith _ e = ⊥

-- the text is the trace of the reference run of the program by the script with the lesser budget, which ends with this status
pub record IsReferenceTrace (meant : Status) (program : ProgramTerm) (scenario : Scenario) (text : List ℕ) : Type 0 where
  pub history : History
  pub run : IsReferenceRun program (with_lesser_budget scenario) history
  pub ends : EndsWith meant history.end
  pub trace : text ≡ trace_of history
