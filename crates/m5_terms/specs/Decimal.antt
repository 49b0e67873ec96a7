-- Digits of decimal numbers.
use Rattle.std.specs.Prelude.{ℕ, Bool, ◌&&◌, nat_le}

-- 0-9
abbrev pub is_digit : ℕ → Bool
is_digit x = nat_le 48 x && nat_le x 57
