-- A step at the front of bytes: the step and what follows it, or nothing where none is spelled there.
use Rattle.std.specs.Prelude.{◌≡◌, ℕ, ◌*◌, List, [], ◌∷◌, take, drop, length, Option, Some, None, true, false, nat_lt, nat_le, ◌==◌, ◌&&◌, ◌||◌, if◌then◌else◌}
use Rattle.std.specs.List.{list_all}
use Rattle.std.specs.Int.{w16, w32, w64, from_be_bytes, cast_signed}
use Rattle.m5_terms.specs.Text.{text_byte}
use Rattle.m5_machine.specs.declared.step.Instruction.TheVariants as i
use Rattle.m5_machine.specs.declared.step.Step.{Step}
use Rattle.m5_machine.specs.declared.step.Step.TheVariants as steps
use Rattle.m5_bytecode.specs.declared.input.CodeEnd.{CodeEnd}
use Rattle.m5_bytecode.specs.declared.input.CodeEnd.TheVariants.{Bad, Memory}

-- want of memory may end a reading anywhere, a fault where nothing is there
abbrev pub Refuses : {A : Type 0} → CodeEnd → Option A → Type 0
Refuses Bad found = found ≡ None
Refuses Memory found = Unit {0}

-- what is read after something
abbrev pub and_read : {A B : Type 0} → Option (A × List ℕ) → (A → List ℕ → Option (B × List ℕ)) → Option (B × List ℕ)
and_read None next = None
and_read (Some found) next = next found.0 found.1

abbrev pub with_rest : Option Step → List ℕ → Option (Step × List ℕ)
with_rest None rest = None
with_rest (Some s) rest = Some (s, rest)

abbrev pub take_in : ℕ → List ℕ → Option (List ℕ × List ℕ)
take_in n bytes = if nat_lt (length bytes) n then None else Some (take n bytes, drop n bytes)

abbrev pub byte_in : List ℕ → Option (ℕ × List ℕ)
byte_in [] = None
byte_in (x ∷ rest) = Some (x, rest)

abbrev pub two_in : List ℕ → Option (ℕ × List ℕ)
two_in bytes = and_read (take_in 2 bytes) (λ xs rest. Some (from_be_bytes w16 xs, rest))

abbrev pub four_in : List ℕ → Option (ℕ × List ℕ)
four_in bytes = and_read (take_in 4 bytes) (λ xs rest. Some (from_be_bytes w32 xs, rest))

abbrev pub truth_of : ℕ → Option Step
truth_of b = if b == 0 then Some (steps.Fill (i.Bool false)) else if b == 1 then Some (steps.Fill (i.Bool true)) else None

abbrev pub truth_in : List ℕ → Option (Step × List ℕ)
truth_in bytes = and_read (byte_in bytes) (λ b rest. with_rest (truth_of b) rest)

abbrev pub number_in : List ℕ → Option (Step × List ℕ)
number_in bytes = and_read (take_in 8 bytes) (λ xs rest. Some (steps.Fill (i.Int (cast_signed w64 (from_be_bytes w64 xs))), rest))

abbrev pub text_of : List ℕ → Option Step
text_of xs = if list_all text_byte xs then Some (steps.Fill (i.Text xs)) else None

abbrev pub text_in : List ℕ → Option (Step × List ℕ)
text_in bytes = and_read (four_in bytes) (λ n rest. and_read (take_in n rest) (λ xs more. with_rest (text_of xs) more))

-- numbers of two bytes each
abbrev pub twos : List ℕ → List ℕ
twos [] = []
twos (x ∷ []) = []
twos (x ∷ y ∷ rest) = from_be_bytes w16 (x ∷ y ∷ []) ∷ twos rest

abbrev pub slots_in : ℕ → List ℕ → Option (Step × List ℕ)
slots_in n bytes = if n == 0 then None else and_read (take_in (2 * n) bytes) (λ xs more. Some (steps.Fill (i.Array (twos xs)), more))

abbrev pub array_in : List ℕ → Option (Step × List ℕ)
array_in bytes = and_read (two_in bytes) slots_in

abbrev pub one_step : ℕ → ℕ → Option Step
one_step op a =
    if op == 0x0b then Some (steps.Fill (i.Str a)) else if op == 0x10 then Some (steps.Fill (i.Cell a))
    else if op == 0x11 then Some (steps.Fill (i.Load a)) else if op == 0x13 then Some (steps.Fill (i.Spawn a)) else None

abbrev pub one_in : ℕ → List ℕ → Option (Step × List ℕ)
one_in op bytes = and_read (two_in bytes) (λ a rest. with_rest (one_step op a) rest)

abbrev pub two_step : ℕ → ℕ → ℕ → Option Step
two_step op a b =
    if op == 0x05 then Some (steps.Fill (i.Field a b)) else if op == 0x06 then Some (steps.Fill (i.Add a b))
    else if op == 0x07 then Some (steps.Fill (i.Sub a b)) else if op == 0x08 then Some (steps.Fill (i.Mul a b))
    else if op == 0x09 then Some (steps.Fill (i.Quo a b)) else if op == 0x0a then Some (steps.Fill (i.Cat a b))
    else if op == 0x0c then Some (steps.Fill (i.EqualInts a b)) else if op == 0x0d then Some (steps.Fill (i.Less a b))
    else if op == 0x0e then Some (steps.Fill (i.EqualTexts a b)) else if op == 0x12 then Some (steps.Fill (i.Store a b))
    else if op == 0x21 then Some (steps.Go a b) else None

abbrev pub pair_in : ℕ → List ℕ → Option (Step × List ℕ)
pair_in op bytes = and_read (two_in bytes) (λ a rest. and_read (two_in rest) (λ b more. with_rest (two_step op a b) more))

abbrev pub branch_in : List ℕ → Option (Step × List ℕ)
branch_in bytes = and_read (two_in bytes) (λ s rest. and_read (four_in rest) (λ n more. Some (steps.If s n, more)))

abbrev pub ask_in : List ℕ → Option (Step × List ℕ)
ask_in bytes = and_read (byte_in bytes) (λ p rest.
    if nat_le 4 p && nat_le p 6 then and_read (two_in rest) (λ a more. and_read (two_in more) (λ n left. Some (steps.Ask p a n, left))) else None)

abbrev pub send_in : List ℕ → Option (Step × List ℕ)
send_in bytes = and_read (byte_in bytes) (λ w rest.
    if w == 0 || w == 2 then and_read (two_in rest) (λ c more. and_read (two_in more) (λ v left. Some (steps.Send w c v, left))) else None)

-- by the first byte
abbrev pub step_by : ℕ → List ℕ → Option (Step × List ℕ)
step_by op rest =
    if op == 0x00 then Some (steps.Fill i.Unit, rest) else if op == 0x01 then truth_in rest
    else if op == 0x02 then number_in rest else if op == 0x03 then text_in rest
    else if op == 0x04 then array_in rest else if op == 0x0b then one_in op rest
    else if op == 0x10 then one_in op rest else if op == 0x11 then one_in op rest
    else if op == 0x13 then one_in op rest else if op == 0x20 then branch_in rest
    else if op == 0x22 then ask_in rest else if op == 0x23 then send_in rest
    else if op == 0x24 then Some (steps.Done, rest) else pair_in op rest

-- the length of a first body stands as the place of the second
unfoldable pub step_in : List ℕ → Option (Step × List ℕ)
step_in bytes = and_read (byte_in bytes) step_by
