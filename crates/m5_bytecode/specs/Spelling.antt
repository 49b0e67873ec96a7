-- How a code is spelled by bytes. Numbers have the most significant byte first.
use Rattle.std.specs.Prelude.{ℕ, List, [], ◌∷◌, ◌++◌, length, Bool, true, false}
use Rattle.std.specs.List.{flat_map}
use Rattle.std.specs.Int.{w16, w32, w64, to_be_bytes, cast_unsigned}
use Rattle.m5_machine.specs.declared.step.Instruction.{Instruction}
use Rattle.m5_machine.specs.declared.step.Instruction.TheVariants as i
use Rattle.m5_machine.specs.Body.{Body, Then, If, Go, Ask, Send, Done}
use Rattle.m5_machine.specs.Blocks.{Flat}
use Rattle.m5_machine.specs.Labelled.{Labelled, blocks_of}

-- a number of two and of four bytes
abbrev pub two : ℕ → List ℕ
two n = to_be_bytes w16 n

abbrev pub four : ℕ → List ℕ
four n = to_be_bytes w32 n

abbrev pub truth_byte : Bool → ℕ
truth_byte false = 0
truth_byte true = 1

-- one line an instruction; `Same` has no spelling
abbrev pub instruction_bytes : Instruction → List ℕ
instruction_bytes i.Unit = 0x00 ∷ []
instruction_bytes (i.Bool b) = 0x01 ∷ truth_byte b ∷ []
instruction_bytes (i.Int n) = 0x02 ∷ to_be_bytes w64 (cast_unsigned w64 n)
instruction_bytes (i.Text bytes) = 0x03 ∷ (four (length bytes) ++ bytes)
instruction_bytes (i.Array slots) = 0x04 ∷ (two (length slots) ++ flat_map two slots)
instruction_bytes (i.Field s place) = 0x05 ∷ (two s ++ two place)
instruction_bytes (i.Add a b) = 0x06 ∷ (two a ++ two b)
instruction_bytes (i.Sub a b) = 0x07 ∷ (two a ++ two b)
instruction_bytes (i.Mul a b) = 0x08 ∷ (two a ++ two b)
instruction_bytes (i.Quo a b) = 0x09 ∷ (two a ++ two b)
instruction_bytes (i.Cat a b) = 0x0a ∷ (two a ++ two b)
instruction_bytes (i.Str a) = 0x0b ∷ two a
instruction_bytes (i.EqualInts a b) = 0x0c ∷ (two a ++ two b)
instruction_bytes (i.Less a b) = 0x0d ∷ (two a ++ two b)
instruction_bytes (i.EqualTexts a b) = 0x0e ∷ (two a ++ two b)
instruction_bytes (i.Same a b) = []
instruction_bytes (i.Cell s) = 0x10 ∷ two s
instruction_bytes (i.Load s) = 0x11 ∷ two s
instruction_bytes (i.Store s v) = 0x12 ∷ (two s ++ two v)
instruction_bytes (i.Spawn s) = 0x13 ∷ two s

-- instructions, and then an ending; an `If` tells how long its first body is
unfoldable pub body_bytes : Body → List ℕ
body_bytes (Then i b) = instruction_bytes i ++ body_bytes b
body_bytes (If s a b) =
    0x20 ∷ (two s ++ (four (length (body_bytes a)) ++ (body_bytes a ++ body_bytes b)))
body_bytes (Go closure value) = 0x21 ∷ (two closure ++ two value)
body_bytes (Ask primitive argument next) = 0x22 ∷ primitive ∷ (two argument ++ two next)
body_bytes (Send world closure value) = 0x23 ∷ world ∷ (two closure ++ two value)
body_bytes Done = 0x24 ∷ []

-- a block: its label, how long it is, and its body
abbrev pub block_bytes : Labelled → List ℕ
block_bytes b = two b.label ++ (four (length (body_bytes b.body)) ++ body_bytes b.body)

-- how many labels have a block, and the blocks
unfoldable pub code_bytes : Flat → List ℕ
code_bytes code = two (length (blocks_of code)) ++ flat_map block_bytes (blocks_of code)
