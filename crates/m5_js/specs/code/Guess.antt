-- What a value can only be, by the bytes at the front of its text.
use Rattle.std.specs.Prelude.{ℕ, zero, suc, pos, ◌+◌, List, [], ◌∷◌, ◌++◌, drop, length, Option, Some, None, true, false, nat_le, nat_lt, ◌||◌, ◌==◌, if◌then◌else◌, slice_index}
use Rattle.std.specs.List.{take_while}
use Rattle.std.specs.Str.Parse.{digits_value}
use Rattle.m5_terms.specs.Decimal.{is_digit}
use Rattle.m5_terms.specs.Quoted.{quoted}
use Rattle.m5_terms.specs.declared.quoted.Quoted.{Quoted}
use Rattle.m5_terms.specs.declared.quoted.Quoted.TheVariants.{Closed, Broken}
use Rattle.m5_machine.specs.declared.step.Instruction.{Instruction}
use Rattle.m5_machine.specs.declared.step.Instruction.TheVariants as i

-- what is found behind something that was read
abbrev pub and_read : {A B : Type 0} → Option (A × List ℕ) → (A → List ℕ → Option B) → Option B
and_read None next = None
and_read (Some found) next = next found.0 found.1

-- the digits at the front, as a number
abbrev pub number_in : ℕ → List ℕ → Option (ℕ × List ℕ)
number_in most bytes =
    if nat_le (digits_value 10 (take_while is_digit bytes)) most
    then Some (digits_value 10 (take_while is_digit bytes), drop (length (take_while is_digit bytes)) bytes) else None

abbrev pub slot_by : ℕ → List ℕ → Option (ℕ × List ℕ)
slot_by x rest =
    if x == 101 then Some (0, rest) else if x == 97 then Some (1, rest)
    else if x == 118 then and_read (number_in 65533 rest) (λ n more. Some (n + 2, more)) else None

unfoldable pub slot_in : List ℕ → Option (ℕ × List ℕ)
slot_in bytes = slot_by (slice_index bytes 0) (drop 1 bytes)

-- the number of a label
unfoldable pub label_in : List ℕ → Option ℕ
label_in bytes = and_read (number_in 65535 bytes) (λ n more. Some n)

-- one slot, and two with some bytes between them
abbrev pub one_in : List ℕ → Option ℕ
one_in bytes = and_read (slot_in bytes) (λ s rest. Some s)

abbrev pub two_in : ℕ → List ℕ → Option (ℕ × ℕ)
two_in between bytes = and_read (slot_in bytes) (λ a rest. and_read (slot_in (drop between rest)) (λ b more. Some (a, b)))

abbrev pub with_one : {B : Type 0} → Option ℕ → (ℕ → B) → Option B
with_one None make = None
with_one (Some a) make = Some (make a)

abbrev pub with_two : {B : Type 0} → Option (ℕ × ℕ) → (ℕ → ℕ → B) → Option B
with_two None make = None
with_two (Some both) make = Some (make both.0 both.1)

abbrev pub arithmetic : ℕ → ℕ → ℕ → Option Instruction
arithmetic op a b =
    if op == 43 then Some (i.Add a b) else if op == 45 then Some (i.Sub a b)
    else if op == 42 then Some (i.Mul a b) else if op == 47 then Some (i.Quo a b) else None

abbrev pub comparison : ℕ → ℕ → ℕ → Option Instruction
comparison op a b =
    if op == 43 then Some (i.Cat a b) else if op == 60 then Some (i.Less a b)
    else if op == 61 then Some (i.Same a b) else None

abbrev pub wrapped_in : List ℕ → Option Instruction
wrapped_in bytes = and_read (slot_in bytes) (λ a rest. and_read (slot_in (drop 3 rest)) (λ b more. arithmetic (slice_index rest 1) a b))

abbrev pub after_slot : ℕ → List ℕ → Option Instruction
after_slot a rest =
    if slice_index rest 0 == 91 then and_read (number_in 65534 (drop 1 rest)) (λ n more. Some (i.Field a n))
    else and_read (slot_in (drop (if slice_index rest 1 == 61 then 5 else 3) rest)) (λ b more. comparison (slice_index rest 1) a b)

abbrev pub slot_first_in : List ℕ → Option Instruction
slot_first_in bytes = and_read (slot_in bytes) after_slot

abbrev pub literal_in : List ℕ → Option Instruction
literal_in bytes = and_read (number_in 9223372036854775807 bytes) (λ n more. Some (i.Int (pos n)))

abbrev pub quoted_value : Quoted → Option Instruction
quoted_value (Closed text n) = Some (i.Text text)
quoted_value (Broken n) = None

abbrev pub in_front : ℕ → Option (List ℕ) → Option (List ℕ)
in_front s None = None
in_front s (Some ss) = Some (s ∷ ss)

abbrev pub behind : List ℕ → Option (List ℕ) → Option (List ℕ)
behind ss None = None
behind ss (Some ts) = Some (ss ++ ts)

-- slots with commas between them, at most so many
abbrev pub fields_in : ℕ → List ℕ → Option (List ℕ)
fields_in zero bytes = None
fields_in (suc n) bytes = and_read (slot_in bytes) (λ s rest. if slice_index rest 0 == 44 then in_front s (fields_in n (drop 2 rest)) else Some (s ∷ []))

abbrev pub array_of : Option (List ℕ) → Option Instruction
array_of None = None
array_of (Some slots) = if length slots == 0 || nat_lt 65535 (length slots) then None else Some (i.Array slots)

abbrev pub call_in : ℕ → List ℕ → Option Instruction
call_in x bytes =
    if x == 83 then with_one (one_in (drop 7 bytes)) i.Str else if x == 99 then with_one (one_in (drop 5 bytes)) i.Cell
    else if x == 108 then with_one (one_in (drop 5 bytes)) i.Load else with_one (one_in (drop 6 bytes)) i.Spawn

abbrev pub store_in : List ℕ → Option Instruction
store_in bytes = with_two (two_in 2 bytes) i.Store

-- by the first byte, and the second one
abbrev pub other_value : ℕ → ℕ → List ℕ → Option Instruction
other_value x y bytes =
    if x == 110 then Some i.Unit else if x == 116 then Some (i.Bool true) else if x == 102 then Some (i.Bool false)
    else if x == 34 then quoted_value (quoted (drop 1 bytes))
    else if x == 91 then array_of (fields_in (length (drop 1 bytes)) (drop 1 bytes))
    else if x == 66 then wrapped_in (drop 18 bytes) else if x == 83 then call_in x bytes
    else if x == 99 then call_in x bytes else if x == 108 then call_in x bytes
    else if x == 115 then (if y == 116 then store_in (drop 6 bytes) else call_in x bytes)
    else slot_first_in bytes

abbrev pub value_by : ℕ → ℕ → List ℕ → Option Instruction
value_by x y bytes = if is_digit x then literal_in bytes else other_value x y bytes

unfoldable pub value_in : List ℕ → Option Instruction
value_in bytes = value_by (slice_index bytes 0) (slice_index bytes 1) bytes
