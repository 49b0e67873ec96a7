-- The bytes that are sent for a thread, where it has any.
use Rattle.std.specs.Prelude.{ℕ, suc, ◌^◌, List, [], ◌∷◌, length, Option, Some, None, Bool, true, false, ◌&&◌, ◌==◌, nat_lt, slice_get, is_some, ℤ, pos, negsuc, if◌then◌else◌}
use Rattle.std.specs.List.{list_all}
use Rattle.m5_terms.specs.Text.{text_byte}
use Rattle.m5_terms.specs.declared.types.World.{World}
use Rattle.m5_terms.specs.declared.types.World.TheVariants.{Any}
use Rattle.m5_region.specs.declared.value.Ref.{Ref}
use Rattle.m5_region.specs.declared.value.Value.{Value}
use Rattle.m5_region.specs.declared.value.Value.TheVariants as values
use Rattle.m5_region.specs.declared.queue.Ready.{Ready}
use Rattle.m5_region.specs.Region.{Object}
use Rattle.m5_machine.specs.Operand.{with_one, bool_in, int_in, text_in, array_in}
use Rattle.m5_dictionary.specs.declared.line.TypeLine.{TypeLine}
use Rattle.m5_dictionary.specs.declared.line.TypeLine.TheVariants as lines
use Rattle.m5_dictionary.specs.Dictionaries.{Dictionaries, Entrance, code_of_world}
use Rattle.m5_message.specs.Reading.{Opening, Whole, Parts}
use Rattle.m5_message.specs.Message.{label_in}
use Rattle.m5_message.specs.Spelling.{opening_in, fields_behind}
use Rattle.m5_message.specs.Packing.{Reached, Sending, sent_from}

-- ---- the thread as it is sent

-- the type of the functions that take this argument
abbrev pub is_function_of : ℕ → TypeLine → Bool
is_function_of i (lines.Fun j) = j == i
is_function_of i _ = false

unfoldable pub function_from : ℕ → ℕ → List TypeLine → Option ℕ
function_from i n [] = None
function_from i n (line ∷ others) =
    if is_function_of i line then Some n else function_from i (suc n) others

-- the label's entrance, and with it the closure's type and the argument's
abbrev pub entrance_at : Dictionaries → List Object → ℕ → Option Entrance
entrance_at d os at = with_one (label_in (slice_get os at)) (slice_get d.labels)

abbrev pub sending_by : Dictionaries → ℕ → Value → Entrance → Option Sending
sending_by d at argument e = with_one (function_from e.argument 0 d.types) (λ id.
    Some (record { code = record { at = at; id = id }; argument = argument; argument_id = e.argument }))

abbrev pub sending_of : Dictionaries → List Object → Ready → Option Sending
sending_of d os thread = with_one (array_in (Some thread.code)) (λ r.
    with_one (entrance_at d os r.0) (sending_by d r.0 thread.argument))

-- ---- whether it has bytes: all that it reaches is of the types at which it is reached

abbrev pub is_null : Value → Bool
is_null values.Null = true
is_null _ = false

-- a number of 64 bits
abbrev pub is_wide : Option ℤ → Bool
is_wide None = false
is_wide (Some (pos n)) = nat_lt n (2 ^ 63)
is_wide (Some (negsuc n)) = nat_lt n (2 ^ 63)

abbrev pub is_number_below : ℕ → Option ℤ → Bool
is_number_below most (Some (pos n)) = nat_lt n most
is_number_below most _ = false

abbrev pub is_number : ℕ → Option ℤ → Bool
is_number m (Some (pos n)) = n == m
is_number m _ = false

-- a reference to an object of a smaller number
abbrev pub is_before : ℕ → Option Ref → Bool
is_before own None = false
is_before own (Some r) = nat_lt r.0 own

-- a value is one of a type
abbrev pub is_of : ℕ → Option TypeLine → Value → Bool
is_of own None v = false
is_of own (Some lines.Unit) v = is_null v
is_of own (Some lines.Bool) v = is_some (bool_in (Some v))
is_of own (Some lines.Int) v = is_wide (int_in (Some v))
is_of own (Some lines.Cell) v = is_number_below 4096 (int_in (Some v))
is_of own (Some (lines.Addr w)) v = is_number (code_of_world w) (int_in (Some v))
is_of own (Some lines.Text) v = is_before own (text_in (Some v))
is_of own (Some (lines.Pair i j)) v = is_before own (array_in (Some v))
is_of own (Some (lines.Sum i j)) v = is_before own (array_in (Some v))
is_of own (Some (lines.List i)) v = is_before own (array_in (Some v))
is_of own (Some (lines.Fun i)) v = is_before own (array_in (Some v))

unfoldable pub are_of : Dictionaries → ℕ → List ℕ → List Value → Bool
are_of d own [] [] = true
are_of d own [] (v ∷ vs) = false
are_of d own (id ∷ ids) [] = false
are_of d own (id ∷ ids) (v ∷ vs) = is_of own (slice_get d.types id) v && are_of d own ids vs

abbrev pub is_closed : Dictionaries → ℕ → Option Opening → Object → Bool
is_closed d own None o = false
is_closed d own (Some (Whole bytes)) o = nat_lt (length bytes) (2 ^ 32) && list_all text_byte bytes
is_closed d own (Some (Parts first ids)) o = are_of d own ids (fields_behind first o)

abbrev pub is_object_of : Dictionaries → Reached → Option Object → Bool
is_object_of d p None = false
is_object_of d p (Some o) = is_closed d p.at (opening_in d p.id (slice_get d.types p.id) o) o

abbrev pub is_fit : Dictionaries → List Object → Reached → Bool
is_fit d os p = is_object_of d p (slice_get os p.at)

abbrev pub is_sendable : Dictionaries → List Object → Sending → Bool
is_sendable d os t =
    nat_lt (length (sent_from d os t)) (2 ^ 32)
    && (list_all (is_fit d os) (sent_from d os t)
    && is_of (length os) (slice_get d.types t.argument_id) t.argument)

abbrev pub if_sendable : Dictionaries → List Object → Sending → Option Sending
if_sendable d os t = if is_sendable d os t then Some t else None

-- the thread as it is sent, where it has bytes
unfoldable pub sendable_of : Dictionaries → List Object → Ready → Option Sending
sendable_of d os thread = with_one (sending_of d os thread) (if_sendable d os)

-- where its label stands
abbrev pub world_in : Option Entrance → World
world_in None = Any
world_in (Some e) = e.world

abbrev pub stands_where : Dictionaries → List Object → Sending → World
stands_where d os t = world_in (entrance_at d os t.code.at)

abbrev pub has_bytes : Dictionaries → List Object → Ready → Bool
has_bytes d os thread = is_some (sendable_of d os thread)
