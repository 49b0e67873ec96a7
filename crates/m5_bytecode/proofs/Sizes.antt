-- How long spellings are.
use Rattle.std.proofs.Common.{ap, sym, ◌∙◌, ◌≡◌, ℕ, get_or, count_by, inl, inr, Bool, not, if◌then◌else◌, zero, suc, ◌+◌, ◌*◌, ◌<◌, ◌≤◌, List, [], ◌∷◌, ◌++◌, length, drop, refl, arith, length-append}
use Rattle.std.specs.List.{flat_map}
use Rattle.std.proofs.lemmas.Bool.{ne_eqb, cases_eq}
use Rattle.std.proofs.lemmas.List.Sums.{sum_by-cons}
use Rattle.m5_machine.specs.declared.step.Instruction.{Instruction}
use Rattle.m5_machine.specs.declared.step.Step.{Step}
use Rattle.m5_machine.specs.declared.step.Step.TheVariants as steps
use Rattle.m5_machine.specs.Body.{Body, Then, If, bodies, one, two as onto_two, onto, Go, Ask, Send, Done}
use Rattle.m5_machine.specs.Blocks.{Flat, body_at, HasBody, first_or_done}
use Rattle.m5_machine.specs.Labelled.{Labelled, blocks_from, blocks_of}
use Rattle.m5_machine.proofs.Laying.{blocks_none, blocks_some}
use Rattle.m5_machine.proofs.Walking.{block_walked}
use Rattle.m5_bytecode.specs.Spelling.{two, instruction_bytes, body_bytes, block_bytes, code_bytes}
use Rattle.m5_bytecode.specs.code.Bodies.{has_block}
use Rattle.m5_bytecode.specs.Server.{step_length, steps_length}

pub twos_length : (xs : List ℕ) → length (flat_map two xs) ≡ 2 * length xs
twos_length [] = refl
twos_length (x ∷ xs) = omega (arith, twos_length xs)

-- the bytes of bodies, one after the other
abbrev pub bytes_of : List Body → ℕ
bytes_of bs = length (flat_map body_bytes bs)

one_length : (i : Instruction) (bs : List Body) → bytes_of (one (Then i) bs) ≤ length (instruction_bytes i) + bytes_of bs
unfolding body_bytes
one_length i [] = omega arith
one_length i (b ∷ bs) = omega (arith, length-append (instruction_bytes i ++ body_bytes b) (flat_map body_bytes bs), length-append (instruction_bytes i) (body_bytes b), length-append (body_bytes b) (flat_map body_bytes bs))

two_length : (s : ℕ) (bs : List Body) → bytes_of (onto_two (If s) bs) ≤ 7 + bytes_of bs
unfolding body_bytes
two_length s [] = omega arith
two_length s (a ∷ []) = omega arith
two_length s (a ∷ b ∷ bs) =
    omega (arith, length-append (body_bytes a ++ body_bytes b) (flat_map body_bytes bs), length-append (body_bytes a) (body_bytes b), length-append (body_bytes b) (flat_map body_bytes bs), length-append (body_bytes a) (body_bytes b ++ flat_map body_bytes bs))

onto_length : (s : Step) (bs : List Body) → bytes_of (onto s bs) ≤ step_length s + bytes_of bs
unfolding body_bytes
onto_length (steps.Fill i) bs = one_length i bs
onto_length (steps.If slot place) bs = two_length slot bs
onto_length (steps.Go c v) bs = omega arith
onto_length (steps.Ask p a n) bs = omega arith
onto_length (steps.Send w c v) bs = omega arith
onto_length steps.Done bs = omega arith

steps_cons : (s : Step) (ss : List Step) → steps_length (s ∷ ss) ≡ step_length s + steps_length ss
steps_cons s ss = sum_by-cons step_length s ss

all_length : (ss : List Step) → bytes_of (bodies ss) ≤ steps_length ss
all_length [] = omega arith
all_length (s ∷ ss) = omega (arith, steps_cons s ss, onto_length s (bodies ss), all_length ss)

drop_length : (n : ℕ) (ss : List Step) → steps_length (drop n ss) ≤ steps_length ss
drop_length zero ss = omega arith
drop_length (suc n) [] = omega arith
drop_length (suc n) (s ∷ ss) = omega (arith, steps_cons s ss, drop_length n ss)

first_length : (bs : List Body) → 0 < length bs → length (body_bytes (first_or_done bs)) ≤ bytes_of bs
first_length [] h = absurd (omega arith)
first_length (b ∷ bs) h = omega (arith, length-append (body_bytes b) (flat_map body_bytes bs))

-- a body has at most the bytes of all steps
pub body_length : (code : Flat) (at : ℕ) → HasBody code at → length (body_bytes (body_at code at)) ≤ steps_length code.steps
unfolding HasBody body_at
body_length code at h = omega (arith, first_length (bodies (drop at code.steps)) h, all_length (drop at code.steps), drop_length at code.steps)

pub fill_len : (i : Instruction) (here next : Body) → here ≡ Then i next → length (body_bytes here) ≡ length (instruction_bytes i) + length (body_bytes next)
unfolding body_bytes
fill_len i here next e = ap (λ (b : Body). length (body_bytes b)) e ∙ length-append (instruction_bytes i) (body_bytes next)

pub if_len : (s : ℕ) (here a b : Body) → here ≡ If s a b → length (body_bytes here) ≡ 7 + length (body_bytes a) + length (body_bytes b)
unfolding body_bytes
if_len s here a b e = ap (λ (x : Body). length (body_bytes x)) e ∙ omega (arith, length-append (body_bytes a) (body_bytes b))

pub go_len : (c v : ℕ) (here : Body) → here ≡ Go c v → length (body_bytes here) ≡ 5
unfolding body_bytes
go_len c v here e = ap (λ (x : Body). length (body_bytes x)) e

pub ask_len : (p a n : ℕ) (here : Body) → here ≡ Ask p a n → length (body_bytes here) ≡ 6
unfolding body_bytes
ask_len p a n here e = ap (λ (x : Body). length (body_bytes x)) e

pub send_len : (w c v : ℕ) (here : Body) → here ≡ Send w c v → length (body_bytes here) ≡ 6
unfolding body_bytes
send_len w c v here e = ap (λ (x : Body). length (body_bytes x)) e

pub done_len : (here : Body) → here ≡ Done → length (body_bytes here) ≡ 1
unfolding body_bytes
done_len here e = ap (λ (x : Body). length (body_bytes x)) e

count_some : (s : ℕ) (starts : List ℕ) → (s ≡ 4294967295 → ⊥) → count_by has_block (s ∷ starts) ≡ suc (count_by has_block starts)
count_some s starts h = sum_by-cons (λ (x : ℕ). if has_block x then 1 else 0) s starts ∙ ap (λ (t : Bool). (if not t then 1 else 0) + count_by has_block starts) (ne_eqb s 4294967295 h) ∙ omega arith

count_none : (s : ℕ) (starts : List ℕ) → s ≡ 4294967295 → count_by has_block (s ∷ starts) ≡ count_by has_block starts
count_none s starts e = sum_by-cons (λ (x : ℕ). if has_block x then 1 else 0) s starts ∙ ap (λ (k : ℕ). (if has_block k then 1 else 0) + count_by has_block starts) e ∙ omega arith

-- each place that stands for a block is one block
pub count_blocks : (code : Flat) (n : ℕ) (starts : List ℕ) → count_by has_block starts ≡ length (blocks_from code n starts)
count_blocks code n [] = refl
count_blocks code n (s ∷ starts) =
    elim (cases_eq s 4294967295) [
      | inl e ↦ count_none s starts e ∙ count_blocks code (n + 1) starts ∙ sym (ap length (blocks_none code n s starts e))
      | inr h ↦ count_some s starts h ∙ ap suc (count_blocks code (n + 1) starts) ∙ sym (ap length (blocks_some code n s starts h))
    ]

pub code_length : (code : Flat) → length (code_bytes code) ≡ 2 + length (flat_map block_bytes (blocks_of code))
unfolding code_bytes
code_length code = length-append (two (length (blocks_of code))) (flat_map block_bytes (blocks_of code))

-- what is left to be spelled, before and after a label with a block
pub walk_length : (code : Flat) (starts : List ℕ) (i s : ℕ) → i < length starts → s ≡ get_or starts i 0 → (s ≡ 4294967295 → ⊥) → length (flat_map block_bytes (blocks_from code i (drop i starts))) ≡ 6 + length (body_bytes (body_at code s)) + length (flat_map block_bytes (blocks_from code (i + 1) (drop (i + 1) starts)))
walk_length code starts i s h e n =
    let b : Labelled = record { label = i; body = body_at code s } in
    let rest = flat_map block_bytes (blocks_from code (i + 1) (drop (i + 1) starts)) in
    let walked : block_bytes b ++ rest ≡ flat_map block_bytes (blocks_from code i (drop i starts)) = block_walked block_bytes code [] (block_bytes b) starts i s h e n refl in
    omega (arith, ap length walked, length-append (block_bytes b) rest)
