-- The programs and scripts that the first form takes, and the trace of their run.
use Rattle.std.specs.Prelude.{◌≡◌, ℕ, true, List, Option, Some, None}
use Rattle.m5_terms.specs.declared.ask.History.{History}
use Rattle.m5_terms.specs.declared.ask.End.TheVariants as end
use Rattle.m5_tree.specs.declared.tree.Tree.{Tree}
use Rattle.m5_typing.specs.Program.{ProgramTerm}
use Rattle.m5_script.specs.Alone.{one_session}
use Rattle.m5_script.specs.Scenario.{Scenario, silent}
use Rattle.m5_script.specs.Trace.{trace_of}
use Rattle.m5_network.specs.Claim.{IsRunOf}
use Rattle.m5_first.specs.Form.{first_form}
use Rattle.m5_first.specs.Walk.{SaysTexts}

-- the program says texts alone; the script has no line but those that are skipped and at most one `sessions 1`, and so it
-- says what an empty one says
pub record IsFirst (script : List ℕ) (scenario : Scenario) (tree : Tree) (program : ProgramTerm) : Type 0 where
  pub form : first_form tree.names tree.program ≡ true
  pub texts : SaysTexts program
  pub alone : one_session script ≡ true
  pub as_empty : scenario ≡ silent

-- the text is the trace of a run of the program by the script, which ends at rest
pub record IsRunTrace (program : ProgramTerm) (scenario : Scenario) (text : List ℕ) : Type 0 where
  pub history : History
  pub run : IsRunOf program scenario history
  pub rests : history.end ≡ end.Rest
  pub trace : text ≡ trace_of history

-- a trace exactly where the program says texts alone
abbrev pub IsTrace : ProgramTerm → Option (List ℕ) → Type 0
IsTrace program (Some text) = SaysTexts program × IsRunTrace program silent text
IsTrace program None = SaysTexts program → ⊥

-- a trace exactly where program and script are of the first form
abbrev pub IsFirstTrace : List ℕ → Scenario → Tree → ProgramTerm → Option (List ℕ) → Type 0
IsFirstTrace script scenario tree program (Some text) = IsFirst script scenario tree program × IsRunTrace program scenario text
IsFirstTrace script scenario tree program None = IsFirst script scenario tree program → ⊥
