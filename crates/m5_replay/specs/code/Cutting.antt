-- Where a line ends.
use Rattle.std.specs.Prelude.{ℕ, Bool, not, ◌==◌}

abbrev pub in_line : ℕ → Bool
in_line byte = not (byte == 10)
