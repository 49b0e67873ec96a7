-- The bytes that a text of a program, a script or a message has.
use Rattle.std.specs.Prelude.{ℕ, Bool, IsTrue, ◌==◌, ◌||◌, ◌&&◌, nat_le, List}
use Rattle.std.specs.List.{list_all}

-- a tab, a line feed or a printable byte
abbrev pub text_byte : ℕ → Bool
text_byte b = b == 9 || b == 10 || nat_le 32 b && nat_le b 126

abbrev pub IsText : List ℕ → Type 0
IsText bytes = IsTrue (list_all text_byte bytes)
