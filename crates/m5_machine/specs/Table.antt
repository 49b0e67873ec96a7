-- The table of instructions: what each makes of a bench.
use Rattle.std.specs.Prelude.{ℕ, suc, ℤ, pos, negsuc, ◌-◌, List, [], ◌∷◌, ◌++◌, length, map, Option, Some, None, Bool, true, false, slice_get, slice_set, nat_lt, bytes_eq, unwrap_or, is_some, int_lt, if◌then◌else◌}
use Rattle.std.specs.List.{list_all}
use Rattle.std.specs.Ordering.{int_eq}
use Rattle.std.specs.Fmt.{signed_decimal}
use Rattle.std.specs.Int.{w64, int_wrapping_add, int_wrapping_sub, int_wrapping_mul, int_wrapping_div}
use Rattle.m5_region.specs.declared.limits.TheConstants.{MOST_ITEMS}
use Rattle.m5_region.specs.declared.value.Ref.{Ref}
use Rattle.m5_region.specs.declared.value.Value.{Value}
use Rattle.m5_region.specs.declared.value.Value.TheVariants as values
use Rattle.m5_region.specs.declared.bench.Bench.{Bench}
use Rattle.m5_region.specs.declared.queue.Ready.{Ready}
use Rattle.m5_region.specs.Region.{Contents, Object, ArrayOf, TextOf, units_of, field_of, Refers}
use Rattle.m5_machine.specs.declared.step.Instruction.{Instruction}
use Rattle.m5_machine.specs.declared.step.Instruction.TheVariants as instructions
use Rattle.m5_machine.specs.declared.made.Made.{Made}
use Rattle.m5_machine.specs.declared.made.Made.TheVariants.{Gives, NoRegion, NoTable, NoCase}
use Rattle.m5_machine.specs.Blocks.{Flat}
use Rattle.m5_machine.specs.Operand.{with_one, with_two, int_in, array_in, text_at}
use Rattle.m5_machine.specs.Closure.{is_closure}

-- a value, or no case of the table
abbrev pub value_or_none : Option Value → Made
value_or_none None = NoCase
value_or_none (Some v) = Gives v

-- numbers
abbrev pub of_ints : List Value → ℕ → ℕ → (ℤ → ℤ → Value) → Option Value
of_ints slots a b f = with_two (int_in (slice_get slots a)) (int_in (slice_get slots b)) f

abbrev pub sum_of : List Value → ℕ → ℕ → Option Value
sum_of slots a b = of_ints slots a b (λ x y. values.Int (int_wrapping_add w64 x y))

abbrev pub difference_of : List Value → ℕ → ℕ → Option Value
difference_of slots a b = of_ints slots a b (λ x y. values.Int (int_wrapping_sub w64 x y))

abbrev pub product_of : List Value → ℕ → ℕ → Option Value
product_of slots a b = of_ints slots a b (λ x y. values.Int (int_wrapping_mul w64 x y))

-- rounded towards zero; there is none by 0
abbrev pub quotient : ℤ → ℤ → Option Value
quotient x y = if int_eq y (pos 0) then None else Some (values.Int (int_wrapping_div w64 x y))

abbrev pub quotient_of : List Value → ℕ → ℕ → Option Value
quotient_of slots a b =
    with_one (int_in (slice_get slots a)) (λ x. with_one (int_in (slice_get slots b)) (quotient x))

abbrev pub less_than : List Value → ℕ → ℕ → Option Value
less_than slots a b = of_ints slots a b (λ x y. values.Bool (int_lt x y))

abbrev pub equal_ints : List Value → ℕ → ℕ → Option Value
equal_ints slots a b = of_ints slots a b (λ x y. values.Bool (int_eq x y))

-- texts
abbrev pub of_texts : List Object → List Value → ℕ → ℕ → (List ℕ → List ℕ → Value) → Option Value
of_texts os slots a b f = with_two (text_at os slots a) (text_at os slots b) f

abbrev pub equal_texts : List Object → List Value → ℕ → ℕ → Option Value
equal_texts os slots a b = of_texts os slots a b (λ x y. values.Bool (bytes_eq x y))

abbrev pub first_there : Option Value → Option Value → Option Value
first_there None w = w
first_there (Some v) w = Some v

abbrev pub equal_values : List Object → List Value → ℕ → ℕ → Option Value
equal_values os slots a b = first_there (equal_ints slots a b) (equal_texts os slots a b)

abbrev pub joined_text : List Object → List Value → ℕ → ℕ → Option Object
joined_text os slots a b =
    with_two (text_at os slots a) (text_at os slots b) (λ x y. TextOf (x ++ y))

abbrev pub decimal_text : List Value → ℕ → Option Object
decimal_text slots a = with_one (int_in (slice_get slots a)) (λ n. Some (TextOf (signed_decimal n)))

-- arrays
abbrev pub part : List Object → List Value → ℕ → ℕ → Option Value
part os slots s place = with_one (array_in (slice_get slots s)) (λ at. field_of os at.0 place)

abbrev pub is_filled : List Value → ℕ → Bool
is_filled slots s = is_some (slice_get slots s)

abbrev pub value_at : List Value → ℕ → Value
value_at slots s = unwrap_or (slice_get slots s) values.Null

abbrev pub array_of : List Value → List ℕ → Option Object
array_of slots operands =
    if list_all (is_filled slots) operands then Some (ArrayOf (map (value_at slots) operands)) else None

-- a new object, where there is one and it fits
abbrev pub with_object : Contents → Object → (Ref → Value) → Made × Contents
with_object region o v =
    if nat_lt region.left (units_of o) then (NoRegion, region)
    else (
      Gives (v (record { 0 = length region.objects })),
      record { objects = region.objects ++ o ∷ []; left = region.left - units_of o },
    )

abbrev pub added : Contents → Option Object → (Ref → Value) → Made × Contents
added region None v = (NoCase, region)
added region (Some o) v = with_object region o v

-- cells: a new one's place is how many there were
abbrev pub new_cell : List Value → Option Value → Made × List Value
new_cell cells None = (NoCase, cells)
new_cell cells (Some v) =
    if nat_lt (length cells) MOST_ITEMS then (Gives (values.Int (pos (length cells))), cells ++ v ∷ [])
    else (NoTable, cells)

abbrev pub cell_place : List Value → ℤ → Option ℕ
cell_place cells (pos n) = if nat_lt n (length cells) then Some n else None
cell_place cells (negsuc n) = None

abbrev pub place_in : List Value → List Value → ℕ → Option ℕ
place_in cells slots s = with_one (int_in (slice_get slots s)) (cell_place cells)

abbrev pub loaded : List Value → List Value → ℕ → Option Value
loaded cells slots s = with_one (place_in cells slots s) (slice_get cells)

abbrev pub set_cell : List Value → Option ℕ → Option Value → Made × List Value
set_cell cells None v = (NoCase, cells)
set_cell cells (Some place) None = (NoCase, cells)
set_cell cells (Some place) (Some v) = (Gives values.Null, slice_set cells place v)

-- a thread more, of a closure, where the threads that wait and the one that runs leave room
abbrev pub new_thread_if : Bool → List Ready → Value → Made × List Ready
new_thread_if false threads v = (NoCase, threads)
new_thread_if true threads v =
    if nat_lt (suc (length threads)) MOST_ITEMS
    then (Gives values.Null, threads ++ record { code = v; argument = values.Null } ∷ [])
    else (NoTable, threads)

abbrev pub new_thread : Flat → List Object → List Ready → Option Value → Made × List Ready
new_thread code os threads None = (NoCase, threads)
new_thread code os threads (Some v) = new_thread_if (is_closure code os v) threads v

abbrev pub in_region : Bench → Made × Contents → Made × Bench
in_region bench m = (m.0, record bench { region = m.1 })

abbrev pub in_cells : Bench → Made × List Value → Made × Bench
in_cells bench m = (m.0, record bench { cells = m.1 })

abbrev pub in_threads : Bench → Made × List Ready → Made × Bench
in_threads bench m = (m.0, record bench { threads = m.1 })

abbrev pub given : Bench → Option Value → Made × Bench
given bench v = (value_or_none v, bench)

-- The table, one line an instruction.
abbrev pub made : Flat → Instruction → Bench → Made × Bench
made code instructions.Unit bench = (Gives values.Null, bench)
made code (instructions.Bool b) bench = (Gives (values.Bool b), bench)
made code (instructions.Int n) bench = (Gives (values.Int n), bench)
made code (instructions.Text bytes) bench =
    in_region bench (with_object bench.region (TextOf bytes) values.Text)
made code (instructions.Array slots) bench =
    in_region bench (added bench.region (array_of bench.slots slots) values.Array)
made code (instructions.Field s place) bench =
    given bench (part bench.region.objects bench.slots s place)
made code (instructions.Add a b) bench = given bench (sum_of bench.slots a b)
made code (instructions.Sub a b) bench = given bench (difference_of bench.slots a b)
made code (instructions.Mul a b) bench = given bench (product_of bench.slots a b)
made code (instructions.Quo a b) bench = given bench (quotient_of bench.slots a b)
made code (instructions.Cat a b) bench =
    in_region bench (added bench.region (joined_text bench.region.objects bench.slots a b) values.Text)
made code (instructions.Str a) bench =
    in_region bench (added bench.region (decimal_text bench.slots a) values.Text)
made code (instructions.Less a b) bench = given bench (less_than bench.slots a b)
made code (instructions.EqualInts a b) bench = given bench (equal_ints bench.slots a b)
made code (instructions.EqualTexts a b) bench =
    given bench (equal_texts bench.region.objects bench.slots a b)
made code (instructions.Same a b) bench =
    given bench (equal_values bench.region.objects bench.slots a b)
made code (instructions.Cell s) bench =
    in_cells bench (new_cell bench.cells (slice_get bench.slots s))
made code (instructions.Load s) bench = given bench (loaded bench.cells bench.slots s)
made code (instructions.Store s v) bench =
    in_cells bench (set_cell bench.cells (place_in bench.cells bench.slots s) (slice_get bench.slots v))
made code (instructions.Spawn s) bench =
    in_threads bench (new_thread code bench.region.objects bench.threads (slice_get bench.slots s))

-- a reference in the value is to an object of its kind
abbrev pub GivesFit : List Object → Made → Type 0
GivesFit os (Gives v) = Refers os v
GivesFit os NoRegion = Unit {0}
GivesFit os NoTable = Unit {0}
GivesFit os NoCase = Unit {0}
