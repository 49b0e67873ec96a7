-- A body written step by step.
use Rattle.std.proofs.Common.{◌≡◌, ℕ, ◌+◌, ◌-◌, ◌<◌, ◌≤◌, ◌^◌, ◌∙◌, List, [], ◌∷◌, ◌++◌, length, take, drop, ap, sym, subst, arith, append_assoc, length-append}
use Rattle.std.proofs.lemmas.List.{take_at, drop_at, drop-drop}
use Rattle.m5_machine.specs.declared.step.Instruction.{Instruction}
use Rattle.m5_machine.specs.Body.{Body, Then, If, Go, Ask, Send, Done}
use Rattle.std.specs.List.{flat_map}
use Rattle.m5_machine.specs.Labelled.{blocks_of}
use Rattle.m5_machine.specs.Blocks.{Flat}
use Rattle.m5_machine.specs.code.Running.{size}
use Rattle.m5_bytecode.specs.Spelling.{two, four, instruction_bytes, body_bytes, block_bytes, code_bytes}

pub fill_bytes : (out new : List ℕ) (i : Instruction) (here next : Body) → here ≡ Then i next → new ≡ out ++ instruction_bytes i → new ++ body_bytes next ≡ out ++ body_bytes here
unfolding body_bytes
fill_bytes out new i here next e n = ap (λ (x : List ℕ). x ++ body_bytes next) n ∙ append_assoc out (instruction_bytes i) (body_bytes next) ∙ ap (λ (b : Body). out ++ body_bytes b) (sym e)

pub instruction_within : (i : Instruction) (here next : Body) → here ≡ Then i next → length (instruction_bytes i) ≤ length (body_bytes here)
unfolding body_bytes
instruction_within i here next e = subst (λ (b : Body). length (instruction_bytes i) ≤ length (body_bytes b)) (sym e) (omega (arith, length-append (instruction_bytes i) (body_bytes next)))

-- the length of a first body, written over four bytes before it
pub length_set : (o1 o2 o3 o4 a : List ℕ) (from n : ℕ) → from ≡ length o1 → n ≡ length o3 → o2 ≡ o1 ++ four 0 → o3 ≡ o2 ++ a → o4 ≡ take from o3 ++ (four (n - from - 4) ++ drop (from + 4) o3) → o4 ≡ o1 ++ (four (length a) ++ a)
length_set o1 o2 o3 o4 a from n f m e2 e3 e4 =
    let o3_is : o3 ≡ o1 ++ (four 0 ++ a) = e3 ∙ ap (λ (x : List ℕ). x ++ a) e2 ∙ append_assoc o1 (four 0) a in
    let front : take from o3 ≡ o1 = ap (take from) o3_is ∙ take_at o1 (four 0 ++ a) from (sym f) in
    let back : drop (from + 4) o3 ≡ a = sym (drop-drop 4 from o3) ∙ ap (drop 4) (ap (drop from) o3_is ∙ drop_at o1 (four 0 ++ a) from (sym f)) in
    let long : n - from - 4 ≡ length a = omega (arith, ap length o3_is, length-append o1 (four 0 ++ a)) in
    e4 ∙ ap (λ (x : List ℕ). x ++ (four (n - from - 4) ++ drop (from + 4) o3)) front ∙ ap (λ (k : ℕ). o1 ++ (four k ++ drop (from + 4) o3)) long ∙ ap (λ (x : List ℕ). o1 ++ (four (length a) ++ x)) back

pub length_small : (o1 o2 o3 a : List ℕ) (from n : ℕ) → from ≡ length o1 → n ≡ length o3 → o2 ≡ o1 ++ four 0 → o3 ≡ o2 ++ a → length a < 2 ^ 32 → n < from + 4 + 2 ^ 32
length_small o1 o2 o3 a from n f m e2 e3 h = omega (arith, ap length e2, ap length e3, length-append o1 (four 0), length-append o2 a)

pub if_bytes : (o0 o1 o4 : List ℕ) (s : ℕ) (here a b : Body) → here ≡ If s a b → o1 ≡ o0 ++ (0x20 ∷ two s) → o4 ≡ o1 ++ (four (length (body_bytes a)) ++ body_bytes a) → o4 ++ body_bytes b ≡ o0 ++ body_bytes here
unfolding body_bytes
if_bytes o0 o1 o4 s here a b e e1 e4 =
    let first = four (length (body_bytes a)) ++ body_bytes a in
    let tail = body_bytes b in
    ap (λ (x : List ℕ). x ++ tail) (e4 ∙ ap (λ (x : List ℕ). x ++ first) e1)
    ∙ append_assoc (o0 ++ (0x20 ∷ two s)) first tail ∙ append_assoc o0 (0x20 ∷ two s) (first ++ tail)
    ∙ ap (λ (x : List ℕ). o0 ++ (0x20 ∷ (two s ++ x))) (append_assoc (four (length (body_bytes a))) (body_bytes a) tail)
    ∙ ap (λ (x : Body). o0 ++ body_bytes x) (sym e)

pub ends_bytes : (o0 o1 : List ℕ) (here b : Body) → here ≡ b → o1 ≡ o0 ++ body_bytes b → o1 ≡ o0 ++ body_bytes here
ends_bytes o0 o1 here b e n = n ∙ ap (λ (x : Body). o0 ++ body_bytes x) (sym e)

size_positive : (b : Body) → 0 < size b
unfolding size
size_positive (Then i b) = omega arith
size_positive (If s a b) = omega arith
size_positive (Go c v) = omega arith
size_positive (Ask p a n) = omega arith
size_positive (Send w c v) = omega arith
size_positive Done = omega arith

pub fill_smaller : (i : Instruction) (here next : Body) → here ≡ Then i next → size next < size here
unfolding size
fill_smaller i here next e = subst (λ (b : Body). size next < size b) (sym e) (omega arith)

pub if_smaller : (s : ℕ) (here a b : Body) → here ≡ If s a b → (size a < size here) × (size b < size here)
unfolding size
if_smaller s here a b e = subst (λ (x : Body). (size a < size x) × (size b < size x)) (sym e) (omega (arith, size_positive b), omega (arith, size_positive a))

pub go_bytes : (o0 o1 : List ℕ) (c v : ℕ) (here : Body) → here ≡ Go c v → o1 ≡ o0 ++ (0x21 ∷ (two c ++ two v)) → o1 ≡ o0 ++ body_bytes here
unfolding body_bytes
go_bytes o0 o1 c v here e n = ends_bytes o0 o1 here (Go c v) e n

pub ask_bytes : (o0 o1 o2 : List ℕ) (p a n : ℕ) (here : Body) → here ≡ Ask p a n → o1 ≡ o0 ++ 0x22 ∷ [] → o2 ≡ o1 ++ (p ∷ (two a ++ two n)) → o2 ≡ o0 ++ body_bytes here
unfolding body_bytes
ask_bytes o0 o1 o2 p a n here e f g = ends_bytes o0 o2 here (Ask p a n) e (g ∙ ap (λ (x : List ℕ). x ++ (p ∷ (two a ++ two n))) f ∙ append_assoc o0 (0x22 ∷ []) (p ∷ (two a ++ two n)))

pub send_bytes : (o0 o1 o2 : List ℕ) (w c v : ℕ) (here : Body) → here ≡ Send w c v → o1 ≡ o0 ++ 0x23 ∷ [] → o2 ≡ o1 ++ (w ∷ (two c ++ two v)) → o2 ≡ o0 ++ body_bytes here
unfolding body_bytes
send_bytes o0 o1 o2 w c v here e f g = ends_bytes o0 o2 here (Send w c v) e (g ∙ ap (λ (x : List ℕ). x ++ (w ∷ (two c ++ two v))) f ∙ append_assoc o0 (0x23 ∷ []) (w ∷ (two c ++ two v)))

pub done_bytes : (o0 o1 : List ℕ) (here : Body) → here ≡ Done → o1 ≡ o0 ++ 0x24 ∷ [] → o1 ≡ o0 ++ body_bytes here
unfolding body_bytes
done_bytes o0 o1 here e n = ends_bytes o0 o1 here Done e n

pub block_whole : (o0 o1 o4 : List ℕ) (label : ℕ) (b : Body) → o1 ≡ o0 ++ two label → o4 ≡ o1 ++ (four (length (body_bytes b)) ++ body_bytes b) → o4 ≡ o0 ++ block_bytes (record { label = label; body = b })
block_whole o0 o1 o4 label b e f = f ∙ ap (λ (x : List ℕ). x ++ (four (length (body_bytes b)) ++ body_bytes b)) e ∙ append_assoc o0 (two label) (four (length (body_bytes b)) ++ body_bytes b)

pub code_whole : (o0 o1 o2 : List ℕ) (n : ℕ) (code : Flat) → o0 ≡ [] → o1 ≡ o0 ++ two n → n ≡ length (blocks_of code) → o2 ≡ o1 ++ flat_map block_bytes (blocks_of code) → o2 ≡ code_bytes code
unfolding code_bytes
code_whole o0 o1 o2 n code e f g h =
    h ∙ ap (λ (x : List ℕ). x ++ flat_map block_bytes (blocks_of code)) (f ∙ ap (λ (x : List ℕ). x ++ two n) e ∙ ap two g)
