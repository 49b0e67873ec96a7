-- An input is a program text and, after the first line that is exactly `%%`, a script text. For `replay` what follows that line is
-- split so once more, into a script text and a trace.
use Rattle.std.specs.Prelude.{ℕ, Bool, true, ◌==◌, ◌&&◌, if◌then◌else◌, List, [], ◌∷◌, ◌++◌, drop, slice_index, nat_lt}

-- after two percent signs: how long the dividing line is with its line feed, a carriage return before it allowed; 0 where it is none
abbrev pub after_marks : List ℕ → ℕ
after_marks [] = 2
after_marks (x ∷ rest) = if x == 10 then 3 else (if x == 13 && slice_index rest 0 == 10 then 4 else 0)

-- the length of the dividing line at the head of a rest, 0 where there is none
abbrev pub divider : List ℕ → ℕ
divider rest = if slice_index rest 0 == 37 && slice_index rest 1 == 37 then after_marks (drop 2 rest) else 0

pub record Parts : Type 0 where
  pub program : List ℕ
  pub script : List ℕ

-- more of the program in front
abbrev pub after_program : List ℕ → Parts → Parts
after_program front p = record { program = front ++ p.program; script = p.script }

-- the parts of a rest that stands at the start of a line or within one
abbrev pub parts_from : Bool → List ℕ → Parts
parts_from at_start [] = record { program = []; script = [] }
parts_from at_start (x ∷ rest) =
    if at_start && nat_lt 0 (divider (x ∷ rest)) then record { program = []; script = drop (divider (x ∷ rest)) (x ∷ rest) }
    else after_program (x ∷ []) (parts_from (x == 10) rest)

abbrev pub parts_of : List ℕ → Parts
parts_of input = parts_from true input
