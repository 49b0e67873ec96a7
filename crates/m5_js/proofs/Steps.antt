-- A step is guessed where it is spelled.
use Rattle.std.proofs.Common.{◌≡◌, ℕ, ◌<◌, ◌≤◌, ◌^◌, ◌∙◌, List, ◌∷◌, ◌++◌, drop, refl, ap, sym, subst, arith, append_assoc, Option, Some, None, Bool, true, false, nat_le, not, ◌||◌, ◌==◌, inl, inr, codes}
use Rattle.std.specs.Fmt.{decimal}
use Rattle.std.proofs.lemmas.Bool.{cases_eq}
use Rattle.std.proofs.lemmas.Bool.Decides.{nat_tests}
use Rattle.m5_machine.specs.declared.step.Instruction.{Instruction}
use Rattle.m5_machine.specs.declared.step.Step.{Step}
use Rattle.m5_machine.specs.declared.step.Step.TheVariants as steps
use Rattle.m5_machine.specs.Linked.{erased}
use Rattle.m5_machine.specs.Numbers.{AreSlots}
use Rattle.m5_js.specs.Spelling.{slot_text, pair_text, value_text, ask_text, send_text}
use Rattle.m5_js.specs.code.Bodies.{step_text, RoomFor, StepRead, NoStep, NoWord}
use Rattle.m5_js.specs.Page.{IsPageStep}
use Rattle.m5_js.specs.code.Guess.{and_read, one_in, two_in, with_one, with_two, value_in}
use Rattle.m5_js.specs.code.GuessedStep.{filled, statement_in, ask_with, send_with, step_in}
use Rattle.std.specs.Str.{bytes_eq}
use Rattle.std.proofs.lemmas.Slice.Eq.{bytes_eq-Decides}
use Rattle.std.proofs.lemmas.List.{append_cancel_left}
use Rattle.m5_js.specs.declared.input.LineEnd.{LineEnd}
use Rattle.m5_js.specs.declared.input.LineEnd.TheVariants.{Bad, Memory}
use Rattle.m5_js.specs.Page.{page_step}
use Rattle.m5_js.proofs.Guessed.{number_back}
use Rattle.m5_js.proofs.Values.{value_back, one_back, comma_back, pair_rest}

statement_back : (n : ℕ) (f : Instruction) (r : List ℕ) → n ≤ 65533 → IsPageStep (steps.Fill f) → statement_in ((decimal n ++ (codes " = " ++ (value_text f ++ codes "; "))) ++ r) ≡ Some (steps.Fill f)
statement_back n f r h g =
    let moved : (decimal n ++ (codes " = " ++ (value_text f ++ codes "; "))) ++ r ≡ decimal n ++ (codes " = " ++ (value_text f ++ 59 ∷ (32 ∷ r))) =
    append_assoc (decimal n) (codes " = " ++ (value_text f ++ codes "; ")) r ∙ ap (λ (t : List ℕ). decimal n ++ (codes " = " ++ t)) (append_assoc (value_text f) (codes "; ") r) in
    ap statement_in moved
    ∙ ap (λ (o : Option (ℕ × List ℕ)). and_read o (λ m more. filled (value_in (drop 3 more)))) (number_back 65533 n 32 (61 ∷ 32 ∷ (value_text f ++ 59 ∷ (32 ∷ r))) h (omega arith) refl)
    ∙ ap filled (value_back f (32 ∷ r) g.page g.numbers)

-- two slots before `); `
two_back : (a b : ℕ) (r : List ℕ) → AreSlots a b → two_in 2 ((pair_text a (codes ", ") b ++ codes "); ") ++ r) ≡ Some (a, b)
two_back a b r h =
    ap (two_in 2) (append_assoc (pair_text a (codes ", ") b) (codes "); ") r ∙ pair_rest a b (codes ", ") (41 ∷ 59 ∷ 32 ∷ r)) ∙ comma_back a b 41 (59 ∷ 32 ∷ r) h refl

branch_back : (s place : ℕ) (r : List ℕ) → s < 2 ^ 16 → with_one (one_in ((slot_text s ++ codes ") { ") ++ r)) (λ n. steps.If n 0) ≡ Some (steps.If s 0)
branch_back s place r h =
    ap (λ (t : List ℕ). with_one (one_in t) (λ n. steps.If n 0)) (append_assoc (slot_text s) (codes ") { ") r)
    ∙ ap (λ (o : Option ℕ). with_one o (λ n. steps.If n 0)) (one_back s 41 (32 ∷ 123 ∷ 32 ∷ r) h refl)

ask_with_back : (p a n : ℕ) (r : List ℕ) → AreSlots a n → ask_with p ((pair_text a (codes ", ") n ++ codes "); ") ++ r) ≡ Some (steps.Ask p a n)
ask_with_back p a n r h = ap (λ (o : Option (ℕ × ℕ)). with_two o (steps.Ask p)) (two_back a n r h)

send_with_back : (w c v : ℕ) (r : List ℕ) → AreSlots c v → send_with w ((pair_text c (codes ", ") v ++ codes "); ") ++ r) ≡ Some (steps.Send w c v)
send_with_back w c v r h = ap (λ (o : Option (ℕ × ℕ)). with_two o (steps.Send w)) (two_back c v r h)

abbrev pub AskRead : ℕ → ℕ → List ℕ → ℕ → Type 0
AskRead a n r p = step_in (ask_text p a n ++ r) ≡ Some (steps.Ask p a n)

ask_0 : (a n : ℕ) (r : List ℕ) → AreSlots a n → AskRead a n r 0
unfolding step_in
ask_0 a n r h = ask_with_back 0 a n r h

ask_1 : (a n : ℕ) (r : List ℕ) → AreSlots a n → AskRead a n r 1
unfolding step_in
ask_1 a n r h = ask_with_back 1 a n r h

ask_2 : (a n : ℕ) (r : List ℕ) → AreSlots a n → AskRead a n r 2
unfolding step_in
ask_2 a n r h = ask_with_back 2 a n r h

ask_3 : (a n : ℕ) (r : List ℕ) → AreSlots a n → AskRead a n r 3
unfolding step_in
ask_3 a n r h = ask_with_back 3 a n r h

ask_7 : (a n : ℕ) (r : List ℕ) → AreSlots a n → AskRead a n r 7
unfolding step_in
ask_7 a n r h = ask_with_back 7 a n r h

is_seven : (p : ℕ) → (nat_le p 3 || p == 7) ≡ true → (p ≡ 0 → ⊥) → (p ≡ 1 → ⊥) → (p ≡ 2 → ⊥) → (p ≡ 3 → ⊥) → p ≡ 7
is_seven p e a b c d = grind (arith, nat_tests)

ask_back : (p a n : ℕ) (r : List ℕ) → (nat_le p 3 || p == 7) ≡ true → AreSlots a n → AskRead a n r p
ask_back p a n r e h =
    elim (cases_eq p 0) [
      | inl k ↦ subst (AskRead a n r) (sym k) (ask_0 a n r h)
      | inr k0 ↦
          elim (cases_eq p 1) [
            | inl k ↦ subst (AskRead a n r) (sym k) (ask_1 a n r h)
            | inr k1 ↦
                elim (cases_eq p 2) [
                  | inl k ↦ subst (AskRead a n r) (sym k) (ask_2 a n r h)
                  | inr k2 ↦
                      elim (cases_eq p 3) [
                        | inl k ↦ subst (AskRead a n r) (sym k) (ask_3 a n r h)
                        | inr k3 ↦
                            subst (AskRead a n r) (sym (is_seven p e k0 k1 k2 k3)) (ask_7 a n r h)
                      ]
                ]
          ]
    ]

abbrev pub SendRead : ℕ → ℕ → List ℕ → ℕ → Type 0
SendRead c v r w = step_in (send_text w c v ++ r) ≡ Some (steps.Send w c v)

send_0 : (c v : ℕ) (r : List ℕ) → AreSlots c v → SendRead c v r 0
unfolding step_in
send_0 c v r h = send_with_back 0 c v r h

send_1 : (c v : ℕ) (r : List ℕ) → AreSlots c v → SendRead c v r 1
unfolding step_in
send_1 c v r h = send_with_back 1 c v r h

send_2 : (c v : ℕ) (r : List ℕ) → AreSlots c v → SendRead c v r 2
unfolding step_in
send_2 c v r h = send_with_back 2 c v r h

is_two : (w : ℕ) → nat_le w 2 ≡ true → (w ≡ 0 → ⊥) → (w ≡ 1 → ⊥) → w ≡ 2
is_two w e a b = grind (arith, nat_tests)

send_back : (w c v : ℕ) (r : List ℕ) → nat_le w 2 ≡ true → AreSlots c v → SendRead c v r w
send_back w c v r e h =
    elim (cases_eq w 0) [
      | inl k ↦ subst (SendRead c v r) (sym k) (send_0 c v r h)
      | inr k0 ↦
          elim (cases_eq w 1) [
            | inl k ↦ subst (SendRead c v r) (sym k) (send_1 c v r h)
            | inr k1 ↦
                subst (SendRead c v r) (sym (is_two w e k0 k1)) (send_2 c v r h)
          ]
    ]

-- a step is guessed where it is spelled, whatever follows
pub step_back : (n : ℕ) (s : Step) (r : List ℕ) → RoomFor n s → IsPageStep s → step_in (step_text n s ++ r) ≡ Some (erased s)
unfolding step_in
step_back n (steps.Fill f) r h g = statement_back n f r h g
step_back n (steps.If slot place) r h g = branch_back slot place r g.numbers.0
step_back n (steps.Go c v) r h g = ap (λ (o : Option (ℕ × ℕ)). with_two o steps.Go) (two_back c v r g.numbers)
step_back n (steps.Ask p a k) r h g = ask_back p a k r g.page g.numbers
step_back n (steps.Send w c v) r h g = send_back w c v r g.page g.numbers
step_back n steps.Done r h g = refl

-- what was guessed is a step that is spelled here, up to the place that a text does not tell
abbrev pub guess_as : Step → Option Step
guess_as s = Some s

abbrev pub guess_or : Option Step → Step
guess_or None = steps.Done
guess_or (Some s) = s

abbrev pub is_guess : Option Step → Bool
is_guess None = false
is_guess (Some s) = true

pub guessed : (n : ℕ) (old r : List ℕ) (s : Step) → StepRead n old s r → step_in old ≡ guess_as (erased s)
guessed n old r s k = ap step_in k.is ∙ step_back n s r k.room k.good

text_erased : (n : ℕ) (s : Step) → step_text n (erased s) ≡ step_text n s
text_erased n (steps.Fill i) = refl
text_erased n (steps.If slot place) = refl
text_erased n (steps.Go c v) = refl
text_erased n (steps.Ask p a k) = refl
text_erased n (steps.Send w c v) = refl
text_erased n steps.Done = refl

pub page_erased : (s : Step) → page_step (erased s) ≡ page_step s
page_erased (steps.Fill i) = refl
page_erased (steps.If slot place) = refl
page_erased (steps.Go c v) = refl
page_erased (steps.Ask p a k) = refl
page_erased (steps.Send w c v) = refl
page_erased steps.Done = refl

room_erased : (n : ℕ) (s : Step) → RoomFor n s → RoomFor n (erased s)
room_erased n (steps.Fill i) h = h
room_erased n (steps.If slot place) h = tt
room_erased n (steps.Go c v) h = tt
room_erased n (steps.Ask p a k) h = tt
room_erased n (steps.Send w c v) h = tt
room_erased n steps.Done h = tt

-- two steps that are spelled at one place are the same, and so is what follows
pub step_unique : (n : ℕ) (old r q : List ℕ) (s t : Step) → StepRead n old s r → StepRead n old t q → (erased s ≡ erased t) × (r ≡ q)
step_unique n old r q s t h k =
    let same : erased s ≡ erased t = ap guess_or (sym (guessed n old r s h) ∙ guessed n old q t k) in
    let texts : step_text n s ≡ step_text n t = sym (text_erased n s) ∙ ap (step_text n) same ∙ text_erased n t in
    (same, append_cancel_left (step_text n t) r q (ap (λ (x : List ℕ). x ++ r) (sym texts) ∙ sym h.is ∙ k.is))

pub no_guess : (e : LineEnd) (n : ℕ) (old : List ℕ) → step_in old ≡ None → NoStep e n old
no_guess Bad n old g = λ s r k. absurd (let no : false ≡ true = sym (ap is_guess g) ∙ ap is_guess (guessed n old r s k) in cc)
no_guess Memory n old g = tt

pub no_page : (n : ℕ) (old r : List ℕ) (g s : Step) → step_in old ≡ guess_as g → page_step g ≡ false → StepRead n old s r → ⊥
no_page n old r g s e f k =
    let same : g ≡ erased s = ap guess_or (sym e ∙ guessed n old r s k) in
    let no : false ≡ true = sym f ∙ ap page_step same ∙ page_erased s ∙ k.good.page in
    cc

pub no_room : (n : ℕ) (old r : List ℕ) (g s : Step) → step_in old ≡ guess_as g → (RoomFor n g → ⊥) → StepRead n old s r → ⊥
no_room n old r g s e f k =
    let same : g ≡ erased s = ap guess_or (sym e ∙ guessed n old r s k) in
    f (subst (RoomFor n) (sym same) (room_erased n s k.room))

pub no_text : (e : LineEnd) (n : ℕ) (old word : List ℕ) (g : Step) → step_in old ≡ guess_as g → word ≡ step_text n g → NoWord e word old → NoStep e n old
no_text Bad n old word g e w f = λ s r k.
    let same : g ≡ erased s = ap guess_or (sym e ∙ guessed n old r s k) in
    f r (k.is ∙ ap (λ (x : List ℕ). x ++ r) (sym (text_erased n s) ∙ ap (step_text n) (sym same) ∙ sym w))
no_text Memory n old word g e w f = tt

pub no_step_memory : (e : LineEnd) (n : ℕ) (old : List ℕ) → e ≡ Memory → NoStep e n old
no_step_memory Bad n old h = absurd (let no : Bad ≡ Memory = h in cc)
no_step_memory Memory n old h = tt

pub differs : (xs ys : List ℕ) → true ≡ not (bytes_eq xs ys) → xs ≡ ys → ⊥
differs xs ys e f =
    let same : bytes_eq xs ys ≡ true = (bytes_eq-Decides xs ys).1 f in
    let no : true ≡ false = e ∙ ap not same in
    cc
