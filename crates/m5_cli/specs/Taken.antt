-- Inputs whose program text, and whose script text, are accepted.
use Rattle.std.specs.Prelude.{◌≡◌, ◌≤◌, ℕ, List, length, Ok}
use Rattle.m5_tree.specs.declared.tree.Tree.{Tree}
use Rattle.m5_raw.specs.RawTerm.{RawTerm}
use Rattle.m5_typing.specs.Program.{ProgramTerm}
use Rattle.m5_front.specs.Reading.{IsAccepted}
use Rattle.m5_script.specs.Scenario.{Scenario}
use Rattle.m5_script.specs.Script.{script_of}
use Rattle.m5_cli.specs.Input.{parts_of}

-- the most bytes that an input may have
abbrev pub input_limit : ℕ
input_limit = 262144

-- the program text of an input is accepted: it reads as this tree, with its names resolved and this typed program
abbrev pub Accepts : List ℕ → Tree → RawTerm → ProgramTerm → Type 0
Accepts input tree raw program = IsAccepted (parts_of input).program tree raw program

-- the program text of an input is accepted, as this typed program
pub record AcceptsAs (input : List ℕ) (program : ProgramTerm) : Type 0 where
  pub tree : Tree
  pub raw : RawTerm
  pub accepted : Accepts input tree raw program

-- a script text says this
abbrev pub SaysScript : List ℕ → Scenario → Type 0
SaysScript text scenario = script_of text ≡ Ok scenario

-- the input is short, and its program text is accepted
pub record HasProgram (input : List ℕ) : Type 0 where
  pub short : length input ≤ input_limit
  pub tree : Tree
  pub raw : RawTerm
  pub program : ProgramTerm
  pub accepted : Accepts input tree raw program

-- moreover this text, which its job reads as the script's, is a script
pub record HasScript (input script_text : List ℕ) : Type 0 where
  pub short : length input ≤ input_limit
  pub tree : Tree
  pub raw : RawTerm
  pub program : ProgramTerm
  pub accepted : Accepts input tree raw program
  pub scenario : Scenario
  pub script : SaysScript script_text scenario
