-- A listing written piece by piece.
use Rattle.std.proofs.Common.{◌≡◌, ℕ, ◌∙◌, List, ◌++◌, length, ap, sym, append_assoc, codes}
use Rattle.m5_machine.specs.declared.step.Instruction.{Instruction}
use Rattle.m5_machine.specs.Body.{Body, Then, If, Go, Ask, Send, Done}
use Rattle.m5_bytecode.specs.Spelling.{body_bytes}
use Rattle.m5_bytecode.specs.Listing.{operand, instruction_words, body_words}

-- a piece that was added, before what follows
pub shift : (o0 o1 a t : List ℕ) → o1 ≡ o0 ++ a → o1 ++ t ≡ o0 ++ (a ++ t)
shift o0 o1 a t e = ap (λ (x : List ℕ). x ++ t) e ∙ append_assoc o0 a t

to_here : (o : List ℕ) (here b : Body) → here ≡ b → o ++ body_words b ≡ o ++ body_words here
to_here o here b e = ap (λ (x : Body). o ++ body_words x) (sym e)

pub fill_words : (o0 o1 o2 : List ℕ) (i : Instruction) (here next : Body) → here ≡ Then i next → o1 ≡ o0 ++ instruction_words i → o2 ≡ o1 ++ codes "; " → o2 ++ body_words next ≡ o0 ++ body_words here
unfolding body_words
fill_words o0 o1 o2 i here next e e1 e2 =
    shift o1 o2 (codes "; ") (body_words next) e2 ∙ shift o0 o1 (instruction_words i) (codes "; " ++ body_words next) e1 ∙ to_here o0 here (Then i next) e

pub if_words : (o0 o1 o2 o3 o4 o5 o6 : List ℕ) (s n : ℕ) (here a b : Body) → here ≡ If s a b → n ≡ length (body_bytes a) → o1 ≡ o0 ++ codes "if" → o2 ≡ o1 ++ operand s → o3 ≡ o2 ++ operand n → o4 ≡ o3 ++ codes "; " → o5 ≡ o4 ++ body_words a → o6 ≡ o5 ++ codes "; " → o6 ++ body_words b ≡ o0 ++ body_words here
unfolding body_words
if_words o0 o1 o2 o3 o4 o5 o6 s n here a b e m e1 e2 e3 e4 e5 e6 =
    let t5 = codes "; " ++ body_words b in
    let t4 = body_words a ++ t5 in
    let t3 = codes "; " ++ t4 in
    let t2 = operand n ++ t3 in
    let t1 = operand s ++ t2 in
    shift o5 o6 (codes "; ") (body_words b) e6 ∙ shift o4 o5 (body_words a) t5 e5 ∙ shift o3 o4 (codes "; ") t4 e4 ∙ shift o2 o3 (operand n) t3 e3
    ∙ shift o1 o2 (operand s) t2 e2 ∙ shift o0 o1 (codes "if") t1 e1
    ∙ ap (λ (k : ℕ). o0 ++ (codes "if" ++ (operand s ++ (operand k ++ t3)))) m ∙ to_here o0 here (If s a b) e

pub go_words : (o0 o1 : List ℕ) (c v : ℕ) (here : Body) → here ≡ Go c v → o1 ≡ o0 ++ (codes "go" ++ (operand c ++ operand v)) → o1 ≡ o0 ++ body_words here
unfolding body_words
go_words o0 o1 c v here e n = n ∙ to_here o0 here (Go c v) e

pub ask_words : (o0 o1 o2 o3 : List ℕ) (p a n : ℕ) (here : Body) → here ≡ Ask p a n → o1 ≡ o0 ++ codes "ask" → o2 ≡ o1 ++ operand p → o3 ≡ o2 ++ (operand a ++ operand n) → o3 ≡ o0 ++ body_words here
unfolding body_words
ask_words o0 o1 o2 o3 p a n here e e1 e2 e3 =
    e3 ∙ shift o1 o2 (operand p) (operand a ++ operand n) e2 ∙ shift o0 o1 (codes "ask") (operand p ++ (operand a ++ operand n)) e1 ∙ to_here o0 here (Ask p a n) e

pub send_words : (o0 o1 o2 o3 : List ℕ) (w c v : ℕ) (here : Body) → here ≡ Send w c v → o1 ≡ o0 ++ codes "send" → o2 ≡ o1 ++ operand w → o3 ≡ o2 ++ (operand c ++ operand v) → o3 ≡ o0 ++ body_words here
unfolding body_words
send_words o0 o1 o2 o3 w c v here e e1 e2 e3 =
    e3 ∙ shift o1 o2 (operand w) (operand c ++ operand v) e2 ∙ shift o0 o1 (codes "send") (operand w ++ (operand c ++ operand v)) e1 ∙ to_here o0 here (Send w c v) e

pub done_words : (o0 o1 : List ℕ) (here : Body) → here ≡ Done → o1 ≡ o0 ++ codes "done" → o1 ≡ o0 ++ body_words here
unfolding body_words
done_words o0 o1 here e n = n ∙ to_here o0 here Done e
