-- Units: how a value is spelled by a kind byte and eight content bytes.
use Rattle.std.specs.Prelude.{ℕ, ◌<◌, ◌^◌, ◌%◌, Bool, true, false, FitsSigned, if◌then◌else◌, ◌==◌, not, List, ◌++◌, take, drop, ◌*◌, ◌+◌}
use Rattle.std.specs.Int.{w64, cast_unsigned, cast_signed}
use Rattle.m5_region.specs.declared.value.Value.{Value}
use Rattle.m5_region.specs.declared.value.Value.TheVariants.{Null, Bool as Truth, Int, Text, Array}

abbrev pub kind_of : Value → ℕ
kind_of Null = 0
kind_of (Truth b) = 1
kind_of (Int n) = 2
kind_of (Text r) = 3
kind_of (Array r) = 4

abbrev pub bit : Bool → ℕ
bit false = 0
bit true = 1

-- the number that the content bytes spell
abbrev pub number_of : Value → ℕ
number_of Null = 0
number_of (Truth b) = bit b
number_of (Int n) = cast_unsigned w64 n
number_of (Text r) = r.0
number_of (Array r) = r.0

-- what has such a number: a value as the type's values are
abbrev pub HasNumber : Value → Type 0
HasNumber Null = Unit {0}
HasNumber (Truth b) = Unit {0}
HasNumber (Int n) = FitsSigned w64 n
HasNumber (Text r) = r.0 < 2 ^ 32
HasNumber (Array r) = r.0 < 2 ^ 32

-- the value of a kind byte and a number
abbrev pub value_of : ℕ → ℕ → Value
value_of kind number =
    if kind == 1 then Truth (not (number == 0))
    else (if kind == 2 then Int (cast_signed w64 number)
    else (if kind == 3 then Text (record { 0 = number % 2 ^ 32 })
    else (if kind == 4 then Array (record { 0 = number % 2 ^ 32 })
    else Null)))

-- the content bytes with eight of them, those of a unit, written over
abbrev pub with_word : List ℕ → ℕ → List ℕ → List ℕ
with_word content unit word = take (8 * unit) content ++ (word ++ drop (8 * unit + 8) content)
