-- How a browser's code is spelled: a line of JavaScript for each label.
use Rattle.std.specs.Prelude.{ℕ, ◌+◌, ◌-◌, List, [], ◌∷◌, ◌++◌, Bool, true, false, ◌==◌, if◌then◌else◌, codes}
use Rattle.std.specs.List.{flat_map}
use Rattle.std.specs.Fmt.{decimal, signed_decimal}
use Rattle.m5_terms.specs.Quoted.{quotation}
use Rattle.m5_machine.specs.declared.step.Instruction.{Instruction}
use Rattle.m5_machine.specs.declared.step.Instruction.TheVariants as i
use Rattle.m5_machine.specs.Body.{Body, Then, If, Go, Ask, Send, Done}
use Rattle.m5_machine.specs.Blocks.{Flat}
use Rattle.m5_machine.specs.Labelled.{Labelled, blocks_of}

-- the closure that was entered, its argument, and the constants, from v0 on
abbrev pub slot_text : ℕ → List ℕ
slot_text s = if s == 0 then codes "e" else if s == 1 then codes "a" else codes "v" ++ decimal (s - 2)

-- two slots with something between them
abbrev pub pair_text : ℕ → List ℕ → ℕ → List ℕ
pair_text a between b = slot_text a ++ (between ++ slot_text b)

-- arithmetic wraps at 64 bits
abbrev pub wrapped_text : ℕ → List ℕ → ℕ → List ℕ
wrapped_text a between b = codes "BigInt.asIntN(64, " ++ (pair_text a between b ++ codes ")")

abbrev pub call_text : List ℕ → ℕ → List ℕ
call_text name s = name ++ (codes "(" ++ (slot_text s ++ codes ")"))

abbrev pub after_comma : ℕ → List ℕ
after_comma s = codes ", " ++ slot_text s

abbrev pub fields_text : List ℕ → List ℕ
fields_text [] = []
fields_text (s ∷ ss) = slot_text s ++ flat_map after_comma ss

abbrev pub truth_text : Bool → List ℕ
truth_text false = codes "false"
truth_text true = codes "true"

-- one line an instruction; the two equalities of a server have no spelling
abbrev pub value_text : Instruction → List ℕ
value_text i.Unit = codes "null"
value_text (i.Bool b) = truth_text b
value_text (i.Int n) = signed_decimal n ++ codes "n"
value_text (i.Text bytes) = quotation bytes
value_text (i.Array slots) = codes "[" ++ (fields_text slots ++ codes "]")
value_text (i.Field s place) = slot_text s ++ (codes "[" ++ (decimal place ++ codes "]"))
value_text (i.Add a b) = wrapped_text a (codes " + ") b
value_text (i.Sub a b) = wrapped_text a (codes " - ") b
value_text (i.Mul a b) = wrapped_text a (codes " * ") b
value_text (i.Quo a b) = wrapped_text a (codes " / ") b
value_text (i.Cat a b) = pair_text a (codes " + ") b
value_text (i.Str a) = call_text (codes "String") a
value_text (i.Less a b) = pair_text a (codes " < ") b
value_text (i.EqualInts a b) = []
value_text (i.EqualTexts a b) = []
value_text (i.Same a b) = pair_text a (codes " === ") b
value_text (i.Cell s) = call_text (codes "cell") s
value_text (i.Load s) = call_text (codes "load") s
value_text (i.Store s v) = codes "store(" ++ (pair_text s (codes ", ") v ++ codes ")")
value_text (i.Spawn s) = call_text (codes "spawn") s

abbrev pub primitive_name : ℕ → List ℕ
primitive_name p =
    if p == 0 then codes "say" else if p == 1 then codes "set_text" else if p == 2 then codes "get_text"
    else if p == 3 then codes "on" else codes "show"

abbrev pub world_name : ℕ → List ℕ
world_name w = if w == 0 then codes "home" else if w == 1 then codes "server" else codes "panel"

-- a constant of a number, and the head of a choice
abbrev pub statement_text : ℕ → Instruction → List ℕ
statement_text n i = codes "const v" ++ (decimal n ++ (codes " = " ++ (value_text i ++ codes "; ")))

abbrev pub branch_text : ℕ → List ℕ
branch_text s = codes "if (" ++ (slot_text s ++ codes ") { ")

abbrev pub go_text : ℕ → ℕ → List ℕ
go_text c v = codes "return go(" ++ (pair_text c (codes ", ") v ++ codes "); ")

abbrev pub ask_text : ℕ → ℕ → ℕ → List ℕ
ask_text p a n = codes "return ask(\"" ++ (primitive_name p ++ (codes "\", " ++ (pair_text a (codes ", ") n ++ codes "); ")))

abbrev pub send_text : ℕ → ℕ → ℕ → List ℕ
send_text w c v = codes "return send(\"" ++ (world_name w ++ (codes "\", " ++ (pair_text c (codes ", ") v ++ codes "); ")))

-- statements, their constants numbered along the path, and then an ending
unfoldable pub body_text : ℕ → Body → List ℕ
body_text n (Then i b) = statement_text n i ++ body_text (n + 1) b
body_text n (If s a b) = branch_text s ++ (body_text n a ++ (codes "} else { " ++ (body_text n b ++ codes "} ")))
body_text n (Go closure value) = go_text closure value
body_text n (Ask primitive argument next) = ask_text primitive argument next
body_text n (Send world closure value) = send_text world closure value
body_text n Done = codes "return done(); "

-- the line of a block
abbrev pub line_text : Labelled → List ℕ
line_text b = codes "const L" ++ (decimal b.label ++ (codes " = (e, a) => { " ++ (body_text 0 b.body ++ codes "};\n")))

abbrev pub page_text : Flat → List ℕ
page_text code = flat_map line_text (blocks_of code)
