-- The listing of a code: a line for each label, with names and operands in decimal.
use Rattle.std.specs.Prelude.{ℕ, List, [], ◌∷◌, ◌++◌, length, codes}
use Rattle.std.specs.List.{flat_map}
use Rattle.std.specs.Fmt.{decimal, signed_decimal}
use Rattle.m5_machine.specs.declared.step.Instruction.{Instruction}
use Rattle.m5_machine.specs.declared.step.Instruction.TheVariants as i
use Rattle.m5_machine.specs.Body.{Body, Then, If, Go, Ask, Send, Done}
use Rattle.m5_machine.specs.Blocks.{Flat}
use Rattle.m5_machine.specs.Labelled.{Labelled, blocks_of}
use Rattle.m5_bytecode.specs.Spelling.{truth_byte, body_bytes}

-- a blank and the number
abbrev pub operand : ℕ → List ℕ
operand n = 32 ∷ decimal n

abbrev pub operands : List ℕ → List ℕ
operands ns = flat_map operand ns

abbrev pub instruction_words : Instruction → List ℕ
instruction_words i.Unit = codes "unit"
instruction_words (i.Bool b) = codes "bool" ++ operand (truth_byte b)
instruction_words (i.Int n) = codes "int " ++ signed_decimal n
instruction_words (i.Text bytes) = codes "text" ++ (operand (length bytes) ++ operands bytes)
instruction_words (i.Array slots) = codes "array" ++ (operand (length slots) ++ operands slots)
instruction_words (i.Field s place) = codes "field" ++ (operand s ++ operand place)
instruction_words (i.Add a b) = codes "add" ++ (operand a ++ operand b)
instruction_words (i.Sub a b) = codes "sub" ++ (operand a ++ operand b)
instruction_words (i.Mul a b) = codes "mul" ++ (operand a ++ operand b)
instruction_words (i.Quo a b) = codes "quo" ++ (operand a ++ operand b)
instruction_words (i.Cat a b) = codes "cat" ++ (operand a ++ operand b)
instruction_words (i.Str a) = codes "str" ++ operand a
instruction_words (i.EqualInts a b) = codes "eqi" ++ (operand a ++ operand b)
instruction_words (i.Less a b) = codes "lti" ++ (operand a ++ operand b)
instruction_words (i.EqualTexts a b) = codes "eqt" ++ (operand a ++ operand b)
instruction_words (i.Same a b) = []
instruction_words (i.Cell s) = codes "cell" ++ operand s
instruction_words (i.Load s) = codes "load" ++ operand s
instruction_words (i.Store s v) = codes "store" ++ (operand s ++ operand v)
instruction_words (i.Spawn s) = codes "spawn" ++ operand s

-- instructions and endings in the order of their bytes, parted by `; `; an `if` shows its slot and its length
unfoldable pub body_words : Body → List ℕ
body_words (Then i b) = instruction_words i ++ (codes "; " ++ body_words b)
body_words (If s a b) =
    codes "if" ++ (operand s ++ (operand (length (body_bytes a))
    ++ (codes "; " ++ (body_words a ++ (codes "; " ++ body_words b)))))
body_words (Go closure value) = codes "go" ++ (operand closure ++ operand value)
body_words (Ask primitive argument next) = codes "ask" ++ (operand primitive ++ (operand argument ++ operand next))
body_words (Send world closure value) = codes "send" ++ (operand world ++ (operand closure ++ operand value))
body_words Done = codes "done"

-- a line: the label, a colon and a blank, and what the block's body shows
abbrev pub line_of : Labelled → List ℕ
line_of b = decimal b.label ++ (codes ": " ++ (body_words b.body ++ 10 ∷ []))

abbrev pub listing_of : Flat → List ℕ
listing_of code = flat_map line_of (blocks_of code)
