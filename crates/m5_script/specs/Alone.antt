-- Scripts that say nothing but that there is one session.
use Rattle.std.specs.Prelude.{ℕ, Bool, true, false, ◌==◌, if◌then◌else◌, List, [], ◌∷◌, Option, Some, None}
use Rattle.std.specs.Str.Lines.{lines}
use Rattle.m5_script.specs.declared.form.Form.{Form}
use Rattle.m5_script.specs.declared.form.Form.TheVariants as form
use Rattle.m5_script.specs.Line.{form_of}

-- what a line makes of whether the session's line was seen, or none where it may not stand
abbrev pub seen_after : Bool → Option Form → Option Bool
seen_after seen (Some form.Skipped) = Some seen
seen_after false (Some (form.Sessions n)) = if n == 1 then Some true else None
seen_after seen _ = None

abbrev pub goes_on : Option Bool → (Bool → Bool) → Bool
goes_on None others = false
goes_on (Some seen) others = others seen

-- the lines in turn: each is skipped, or it is `sessions 1` and the only one
abbrev pub one_session_lines : Bool → List (List ℕ) → Bool
one_session_lines seen [] = true
one_session_lines seen (line ∷ others) = goes_on (seen_after seen (form_of line)) (λ after. one_session_lines after others)

abbrev pub one_session : List ℕ → Bool
one_session text = one_session_lines false (lines text)
