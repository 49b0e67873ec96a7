-- What a step can only be, by the bytes at the front of its text.
use Rattle.std.specs.Prelude.{ℕ, List, drop, Option, Some, None, ◌==◌, if◌then◌else◌, slice_index}
use Rattle.m5_machine.specs.declared.step.Instruction.{Instruction}
use Rattle.m5_machine.specs.declared.step.Step.{Step}
use Rattle.m5_machine.specs.declared.step.Step.TheVariants as steps
use Rattle.m5_js.specs.code.Guess.{and_read, number_in, one_in, two_in, with_one, with_two, value_in}

abbrev pub filled : Option Instruction → Option Step
filled None = None
filled (Some i) = Some (steps.Fill i)

abbrev pub statement_in : List ℕ → Option Step
statement_in bytes = and_read (number_in 65533 bytes) (λ n more. filled (value_in (drop 3 more)))

abbrev pub branch_in : List ℕ → Option Step
branch_in bytes = with_one (one_in bytes) (λ s. steps.If s 0)

abbrev pub go_in : List ℕ → Option Step
go_in bytes = with_two (two_in 2 bytes) steps.Go

abbrev pub ask_with : ℕ → List ℕ → Option Step
ask_with p bytes = with_two (two_in 2 bytes) (steps.Ask p)

abbrev pub send_with : ℕ → List ℕ → Option Step
send_with w bytes = with_two (two_in 2 bytes) (steps.Send w)

abbrev pub ask_by : ℕ → ℕ → List ℕ → Option Step
ask_by x y bytes =
    if x == 103 then ask_with 2 (drop 11 bytes) else if x == 111 then ask_with 3 (drop 5 bytes)
    else if y == 97 then ask_with 0 (drop 6 bytes) else if y == 101 then ask_with 1 (drop 11 bytes) else ask_with 7 (drop 7 bytes)

abbrev pub ask_in : List ℕ → Option Step
ask_in bytes = ask_by (slice_index bytes 0) (slice_index bytes 1) bytes

abbrev pub send_by : ℕ → List ℕ → Option Step
send_by x bytes =
    if x == 104 then send_with 0 (drop 7 bytes) else if x == 115 then send_with 1 (drop 9 bytes) else send_with 2 (drop 8 bytes)

abbrev pub send_in : List ℕ → Option Step
send_in bytes = send_by (slice_index bytes 0) bytes

abbrev pub ending_by : ℕ → List ℕ → Option Step
ending_by y bytes =
    if y == 103 then go_in (drop 10 bytes) else if y == 97 then ask_in (drop 12 bytes)
    else if y == 115 then send_in (drop 13 bytes) else Some steps.Done

abbrev pub ending_in : List ℕ → Option Step
ending_in bytes = ending_by (slice_index bytes 7) bytes

abbrev pub step_by : ℕ → List ℕ → Option Step
step_by x bytes =
    if x == 99 then statement_in (drop 7 bytes) else if x == 105 then branch_in (drop 4 bytes)
    else ending_in bytes

unfoldable pub step_in : List ℕ → Option Step
step_in bytes = step_by (slice_index bytes 0) bytes
