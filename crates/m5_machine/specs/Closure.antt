-- Closures: arrays whose first field is the number of a label that has a block.
use Rattle.std.specs.Prelude.{ℕ, ℤ, pos, negsuc, List, Option, Some, None, Bool, is_some, IsSome, nat_lt, if◌then◌else◌, All}
use Rattle.m5_region.specs.declared.value.Value.{Value}
use Rattle.m5_region.specs.declared.queue.Ready.{Ready}
use Rattle.m5_region.specs.declared.bench.Bench.{Bench}
use Rattle.m5_region.specs.Region.{Object, Refers, field_of}
use Rattle.m5_machine.specs.declared.closure.Target.{Target}
use Rattle.m5_machine.specs.Blocks.{Flat, start_of}
use Rattle.m5_machine.specs.Operand.{with_one, array_in, int_in}

-- a number as a label
abbrev pub label_in : ℤ → Option ℕ
label_in (pos n) = if nat_lt 65535 n then None else Some n
label_in (negsuc n) = None

abbrev pub entry_at : ℕ → Option ℕ → Option Target
entry_at label None = None
entry_at label (Some start) = Some (record { label = label; start = start })

-- the block that a closure enters: its label, and where it begins
abbrev pub entry : Flat → List Object → Value → Option Target
entry code os closure =
    with_one (array_in (Some closure)) (λ at.
    with_one (int_in (field_of os at.0 0)) (λ n.
    with_one (label_in n) (λ label. entry_at label (start_of code label))))

abbrev pub is_closure : Flat → List Object → Value → Bool
is_closure code os v = is_some (entry code os v)

-- a thread may run: its values refer to objects of their kinds, and its code is a closure
pub record CanRun (code : Flat) (os : List Object) (t : Ready) : Type 0 where
  pub code_refers : Refers os t.code
  pub argument_refers : Refers os t.argument
  pub closure : IsSome (entry code os t.code)

-- what holds of a bench between the runs of threads
pub record IsSound (code : Flat) (bench : Bench) : Type 0 where
  pub cells : All (Refers bench.region.objects) bench.cells
  pub threads : All (CanRun code bench.region.objects) bench.threads
