-- A script's text, line by line.
use Rattle.std.specs.Prelude.{◌≡◌, ℕ, ◌+◌, Bool, not, ◌==◌, List, [], ◌∷◌, Option, Some, None, Result, Ok, Err}
use Rattle.std.specs.Str.Lines.{lines}
use Rattle.m5_script.specs.declared.form.Form.{Form}
use Rattle.m5_script.specs.declared.reading.LineKind.{LineKind}
use Rattle.m5_script.specs.declared.reading.LineKind.TheVariants.{Syntax}
use Rattle.m5_script.specs.declared.reading.Reading.{Reading}
use Rattle.m5_script.specs.declared.read.ScriptEnd.{ScriptEnd}
use Rattle.m5_script.specs.declared.read.ScriptEnd.TheVariants.{Line, Memory}
use Rattle.m5_script.specs.Line.{form_of}
use Rattle.m5_script.specs.Reading.{fault_of, next, fresh, finished}
use Rattle.m5_script.specs.Scenario.{Scenario}

-- a line goes on up to a line feed
abbrev pub in_line : ℕ → Bool
in_line byte = not (byte == 10)

-- a bad line by its number, from 1, and its kind
pub record Fault : Type 0 where
  pub line : ℕ
  pub kind : LineKind

abbrev pub by_fault : Reading → Option LineKind → Result Reading LineKind
by_fault after None = Ok after
by_fault after (Some kind) = Err kind

abbrev pub by_form : Reading → Option Form → Result Reading LineKind
by_form r None = Err Syntax
by_form r (Some form) = by_fault (next r form) (fault_of r form)

-- what one more line makes of what was read, or the kind of its fault
unfoldable pub after_line : Reading → List ℕ → Result Reading LineKind
after_line r line = by_form r (form_of line)

abbrev pub go_on : ℕ → (Reading → Result Reading Fault) → Result Reading LineKind → Result Reading Fault
go_on number others (Ok r) = others r
go_on number others (Err kind) = Err (record { line = number; kind = kind })

-- the lines in turn, up to the first bad one
abbrev pub read_lines : ℕ → Reading → List (List ℕ) → Result Reading Fault
read_lines number r [] = Ok r
read_lines number r (line ∷ others) = go_on number (λ after. read_lines (number + 1) after others) (after_line r line)

abbrev pub in_full : Result Reading Fault → Result Scenario Fault
in_full (Ok r) = Ok (finished r)
in_full (Err fault) = Err fault

-- what a text says as a script, or its first bad line
unfoldable pub script_of : List ℕ → Result Scenario Fault
script_of text = in_full (read_lines 1 fresh (lines text))

-- an end names the first bad line, and want of memory may come anywhere
abbrev pub Ends : ScriptEnd → Result Scenario Fault → Type 0
Ends (Line number kind) outcome = outcome ≡ Err (record { line = number; kind = kind })
Ends Memory outcome = Unit {0}

-- the same of one line
abbrev pub EndsLine : ScriptEnd → ℕ → Result Reading LineKind → Type 0
EndsLine (Line number kind) here outcome = (number ≡ here) × (outcome ≡ Err kind)
EndsLine Memory here outcome = Unit {0}
