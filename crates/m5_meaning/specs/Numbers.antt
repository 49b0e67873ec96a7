-- Integers of 64 bits, which wrap, and what the operators make of them.
use Rattle.std.specs.Prelude.{ℤ, int_div}
use Rattle.std.specs.Int.{int_wrap, w64}

-- the signed number of 64 bits that stands for the number
abbrev pub wrapped : ℤ → ℤ
wrapped n = int_wrap w64 n

-- the quotient rounded towards zero, wrapped
abbrev pub quotient : ℤ → ℤ → ℤ
quotient a b = wrapped (int_div a b)
