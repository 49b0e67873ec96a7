-- Steps whose numbers are ones that the machine's types hold.
use Rattle.std.specs.Prelude.{ℕ, ◌<◌, ◌^◌, length, All, FitsSigned}
use Rattle.std.specs.Int.{w64}
use Rattle.m5_machine.specs.declared.step.Instruction.{Instruction}
use Rattle.m5_machine.specs.declared.step.Instruction.TheVariants as i
use Rattle.m5_machine.specs.declared.step.Step.{Step}
use Rattle.m5_machine.specs.declared.step.Step.TheVariants as steps

abbrev pub IsSlot : ℕ → Type 0
IsSlot n = n < 2 ^ 16

abbrev pub AreSlots : ℕ → ℕ → Type 0
AreSlots a b = IsSlot a × IsSlot b

-- an array has 1 to 65,535 fields
abbrev pub IsInstruction : Instruction → Type 0
IsInstruction i.Unit = Unit {0}
IsInstruction (i.Bool b) = Unit {0}
IsInstruction (i.Int n) = FitsSigned w64 n
IsInstruction (i.Text bytes) = All (λ b. b < 256) bytes
IsInstruction (i.Array slots) = (0 < length slots) × (length slots < 2 ^ 16) × All IsSlot slots
IsInstruction (i.Field s place) = AreSlots s place
IsInstruction (i.Add a b) = AreSlots a b
IsInstruction (i.Sub a b) = AreSlots a b
IsInstruction (i.Mul a b) = AreSlots a b
IsInstruction (i.Quo a b) = AreSlots a b
IsInstruction (i.Cat a b) = AreSlots a b
IsInstruction (i.Str a) = IsSlot a
IsInstruction (i.Less a b) = AreSlots a b
IsInstruction (i.EqualInts a b) = AreSlots a b
IsInstruction (i.EqualTexts a b) = AreSlots a b
IsInstruction (i.Same a b) = AreSlots a b
IsInstruction (i.Cell s) = IsSlot s
IsInstruction (i.Load s) = IsSlot s
IsInstruction (i.Store s v) = AreSlots s v
IsInstruction (i.Spawn s) = IsSlot s

abbrev pub IsStep : Step → Type 0
IsStep (steps.Fill i) = IsInstruction i
IsStep (steps.If slot place) = IsSlot slot × (place < 2 ^ 32)
IsStep (steps.Go closure value) = AreSlots closure value
IsStep (steps.Ask primitive argument next) = AreSlots argument next
IsStep (steps.Send world closure value) = AreSlots closure value
IsStep steps.Done = Unit {0}
