-- Places in a text: a line and a column, both from 1, the columns in bytes.
use Rattle.std.specs.Prelude.{ℕ, List, [], ◌∷◌, ◌+◌, ◌==◌, if◌then◌else◌}
use Rattle.m5_lex.specs.declared.place.Place.{Place}

-- the place of the first byte
abbrev pub first_place : Place
first_place = record { line = 1; column = 1 }

-- the place after one byte: byte 10 ends a line
abbrev pub after_byte : Place → ℕ → Place
after_byte p x = if x == 10 then record { line = p.line + 1; column = 1 } else record { line = p.line; column = p.column + 1 }

-- the place after these bytes
abbrev pub after : Place → List ℕ → Place
after p [] = p
after p (x ∷ xs) = after (after_byte p x) xs
