-- A body printed piece by piece.
use Rattle.std.proofs.Common.{◌≡◌, ℕ, suc, ◌+◌, ◌<◌, ◌≤◌, ◌∙◌, List, ◌++◌, ap, sym, subst, arith, append_assoc, codes}
use Rattle.m5_machine.specs.declared.step.Instruction.{Instruction}
use Rattle.m5_machine.specs.Body.{Body, Then, If, Go, Ask, Send, Done, fills}
use Rattle.m5_machine.specs.code.Running.{size}
use Rattle.m5_js.specs.Spelling.{statement_text, branch_text, go_text, ask_text, send_text, body_text}

-- a piece that was added, before what follows
shift : (o0 o1 a t : List ℕ) → o1 ≡ o0 ++ a → o1 ++ t ≡ o0 ++ (a ++ t)
shift o0 o1 a t e = ap (λ (x : List ℕ). x ++ t) e ∙ append_assoc o0 a t

to_here : (o : List ℕ) (n : ℕ) (here b : Body) → here ≡ b → o ++ body_text n b ≡ o ++ body_text n here
to_here o n here b e = ap (λ (x : Body). o ++ body_text n x) (sym e)

pub fill_text : (o0 o1 : List ℕ) (n : ℕ) (i : Instruction) (here next : Body) → here ≡ Then i next → o1 ≡ o0 ++ statement_text n i → o1 ++ body_text (n + 1) next ≡ o0 ++ body_text n here
unfolding body_text
fill_text o0 o1 n i here next e f = shift o0 o1 (statement_text n i) (body_text (n + 1) next) f ∙ to_here o0 n here (Then i next) e

pub if_text : (o0 o1 o2 o3 o4 o5 : List ℕ) (n s : ℕ) (here a b : Body) → here ≡ If s a b → o1 ≡ o0 ++ branch_text s → o2 ≡ o1 ++ body_text n a → o3 ≡ o2 ++ codes "} else { " → o4 ≡ o3 ++ body_text n b → o5 ≡ o4 ++ codes "} " → o5 ≡ o0 ++ body_text n here
unfolding body_text
if_text o0 o1 o2 o3 o4 o5 n s here a b e e1 e2 e3 e4 e5 =
    let t3 = body_text n b ++ codes "} " in
    let t2 = codes "} else { " ++ t3 in
    let t1 = body_text n a ++ t2 in
    e5 ∙ shift o3 o4 (body_text n b) (codes "} ") e4 ∙ shift o2 o3 (codes "} else { ") t3 e3 ∙ shift o1 o2 (body_text n a) t2 e2 ∙ shift o0 o1 (branch_text s) t1 e1 ∙ to_here o0 n here (If s a b) e

pub go_here : (o0 o1 : List ℕ) (n c v : ℕ) (here : Body) → here ≡ Go c v → o1 ≡ o0 ++ go_text c v → o1 ≡ o0 ++ body_text n here
unfolding body_text
go_here o0 o1 n c v here e f = f ∙ to_here o0 n here (Go c v) e

pub ask_here : (o0 o1 : List ℕ) (n p a k : ℕ) (here : Body) → here ≡ Ask p a k → o1 ≡ o0 ++ ask_text p a k → o1 ≡ o0 ++ body_text n here
unfolding body_text
ask_here o0 o1 n p a k here e f = f ∙ to_here o0 n here (Ask p a k) e

pub send_here : (o0 o1 : List ℕ) (n w c v : ℕ) (here : Body) → here ≡ Send w c v → o1 ≡ o0 ++ send_text w c v → o1 ≡ o0 ++ body_text n here
unfolding body_text
send_here o0 o1 n w c v here e f = f ∙ to_here o0 n here (Send w c v) e

pub done_here : (o0 o1 : List ℕ) (n : ℕ) (here : Body) → here ≡ Done → o1 ≡ o0 ++ codes "return done(); " → o1 ≡ o0 ++ body_text n here
unfolding body_text
done_here o0 o1 n here e f = f ∙ to_here o0 n here Done e

pub fill_smaller : (i : Instruction) (here next : Body) → here ≡ Then i next → (size next < size here) × (fills here ≡ suc (fills next))
unfolding size fills
fill_smaller i here next e = subst (λ (b : Body). (size next < size b) × (fills b ≡ suc (fills next))) (sym e) (omega arith, omega arith)

size_positive : (b : Body) → 0 < size b
unfolding size
size_positive (Then i b) = omega arith
size_positive (If s a b) = omega arith
size_positive (Go c v) = omega arith
size_positive (Ask p a n) = omega arith
size_positive (Send w c v) = omega arith
size_positive Done = omega arith

pub if_smaller : (s : ℕ) (here a b : Body) → here ≡ If s a b → (size a < size here) × (size b < size here) × (fills a ≤ fills here) × (fills b ≤ fills here)
unfolding size fills
if_smaller s here a b e = subst (λ (x : Body). (size a < size x) × (size b < size x) × (fills a ≤ fills x) × (fills b ≤ fills x)) (sym e) (omega (arith, size_positive b), omega (arith, size_positive a), omega arith, omega arith)
