-- A line that is spelled at the front of a text is the only one there.
use Rattle.std.proofs.Common.{◌≡◌, ℕ, ◌<◌, ◌≤◌, ◌∙◌, List, [], ◌∷◌, ◌++◌, length, refl, ap, sym, subst, arith, append_assoc, length-append, Option, Some, None, Bool, true, false, codes}
use Rattle.std.specs.Fmt.{decimal}
use Rattle.std.proofs.lemmas.List.{append_cancel_left}
use Rattle.m5_terms.specs.Decimal.{is_digit}
use Rattle.m5_machine.specs.declared.step.Step.{Step}
use Rattle.m5_machine.specs.Body.{Body, fills}
use Rattle.m5_machine.specs.Labelled.{Labelled}
use Rattle.m5_machine.specs.code.Flattened.{IsLaid, EachStep}
use Rattle.m5_machine.proofs.Laying.{laid_block}
use Rattle.m5_js.specs.declared.input.LineEnd.{LineEnd}
use Rattle.m5_js.specs.declared.input.LineEnd.TheVariants.{Bad, Memory}
use Rattle.m5_js.specs.Spelling.{body_text, line_text}
use Rattle.m5_js.specs.code.Guess.{and_read, label_in}
use Rattle.m5_js.specs.code.Bodies.{NoWord, BodyRead, NoBody}
use Rattle.m5_js.specs.Page.{IsPageStep}
use Rattle.m5_js.specs.code.Lines.{NoLabel, LineHere, NoLine, LineRead}
use Rattle.m5_js.proofs.Guessed.{number_back}
use Rattle.m5_js.proofs.Bodies.{unique}

abbrev pub label_as : ℕ → Option ℕ
label_as n = Some n

abbrev pub label_or : Option ℕ → ℕ
label_or None = 0
label_or (Some n) = n

abbrev pub is_label : Option ℕ → Bool
is_label None = false
is_label (Some n) = true

pub label_back : (n x : ℕ) (r : List ℕ) → n < 65536 → is_digit x ≡ false → label_in (decimal n ++ x ∷ r) ≡ label_as n
unfolding label_in
label_back n x r h d = ap (λ (o : Option (ℕ × List ℕ)). and_read o (λ m more. label_as m)) (number_back 65535 n x r (omega arith) (omega arith) d)

pub no_label_guess : (e : LineEnd) (old : List ℕ) → label_in old ≡ None → NoLabel e old
no_label_guess Bad old g = λ n x r h d e. absurd (let no : false ≡ true = sym (ap is_label g) ∙ ap is_label (ap label_in e ∙ label_back n x r h d) in cc)
no_label_guess Memory old g = tt

pub no_label_text : (e : LineEnd) (old word : List ℕ) (g : ℕ) → label_in old ≡ label_as g → word ≡ decimal g → NoWord e word old → NoLabel e old
no_label_text Bad old word g e w f = λ n x r h d k.
    let same : g ≡ n = ap label_or (sym e ∙ ap label_in k ∙ label_back n x r h d) in
    f (x ∷ r) (k ∙ ap (λ (t : List ℕ). t ++ x ∷ r) (ap decimal (sym same) ∙ sym w))
no_label_text Memory old word g e w f = tt

abbrev pub const_text : List ℕ
const_text = codes "const L"

abbrev pub opening_text : List ℕ
opening_text = codes " = (e, a) => { "

abbrev pub closing_text : List ℕ
closing_text = codes "};\n"

-- a line by its parts
pub line_rest : (b : Labelled) (r : List ℕ) → line_text b ++ r ≡ const_text ++ (decimal b.label ++ (opening_text ++ (body_text 0 b.body ++ (closing_text ++ r))))
line_rest b r =
    ap (λ (t : List ℕ). const_text ++ t) (append_assoc (decimal b.label) (opening_text ++ (body_text 0 b.body ++ closing_text)) r
    ∙ ap (λ (t : List ℕ). decimal b.label ++ (opening_text ++ t)) (append_assoc (body_text 0 b.body) closing_text r))

-- the parts of the line that is spelled here, as they are taken off
pub behind_const : (from : ℕ) (old : List ℕ) (h : LineHere from old) → old ≡ const_text ++ (decimal h.block.label ++ (opening_text ++ (body_text 0 h.block.body ++ (closing_text ++ h.rest))))
behind_const from old h = h.is ∙ line_rest h.block h.rest

pub label_part : (from : ℕ) (old r1 : List ℕ) (h : LineHere from old) → old ≡ const_text ++ r1 → r1 ≡ decimal h.block.label ++ (opening_text ++ (body_text 0 h.block.body ++ (closing_text ++ h.rest)))
label_part from old r1 h e = append_cancel_left const_text r1 _ (sym e ∙ behind_const from old h)

pub label_is : (from label : ℕ) (old r1 : List ℕ) (h : LineHere from old) → old ≡ const_text ++ r1 → label_in r1 ≡ label_as label → label ≡ h.block.label
label_is from label old r1 h e g = ap label_or (sym g ∙ ap label_in (label_part from old r1 h e) ∙ label_back h.block.label 32 _ h.high refl)

pub opening_part : (from label : ℕ) (old r1 r2 : List ℕ) (h : LineHere from old) → old ≡ const_text ++ r1 → label_in r1 ≡ label_as label → r1 ≡ decimal label ++ r2 → r2 ≡ opening_text ++ (body_text 0 h.block.body ++ (closing_text ++ h.rest))
opening_part from label old r1 r2 h e g f =
    append_cancel_left (decimal label) r2 _ (sym f ∙ label_part from old r1 h e ∙ ap (λ (n : ℕ). decimal n ++ (opening_text ++ (body_text 0 h.block.body ++ (closing_text ++ h.rest)))) (sym (label_is from label old r1 h e g)))

pub body_part : (from label : ℕ) (old r1 r2 r3 : List ℕ) (h : LineHere from old) → old ≡ const_text ++ r1 → label_in r1 ≡ label_as label → r1 ≡ decimal label ++ r2 → r2 ≡ opening_text ++ r3 → r3 ≡ body_text 0 h.block.body ++ (closing_text ++ h.rest)
body_part from label old r1 r2 r3 h e g f k = append_cancel_left opening_text r3 _ (sym k ∙ opening_part from label old r1 r2 h e g f)

pub closing_part : (from label : ℕ) (old r1 r2 r3 r4 : List ℕ) (before after : List Step) (h : LineHere from old) → old ≡ const_text ++ r1 → label_in r1 ≡ label_as label → r1 ≡ decimal label ++ r2 → r2 ≡ opening_text ++ r3 → (m : BodyRead 1 0 r3 before r4 after) → (h.block.body ≡ m.body) × (closing_text ++ h.rest ≡ r4)
closing_part from label old r1 r2 r3 r4 before after h e g f k m =
    unique 0 h.block.body m.body (closing_text ++ h.rest) r4 h.good m.good (omega (arith, h.room)) m.room (sym (body_part from label old r1 r2 r3 h e g f k) ∙ m.is)

-- no line where one of its parts is not
pub no_const : (e : LineEnd) (from : ℕ) (old : List ℕ) → NoWord e const_text old → NoLine e from old
no_const Bad from old n = λ h. n _ (behind_const from old h)
no_const Memory from old n = tt

pub no_line_label : (e : LineEnd) (from : ℕ) (old r1 : List ℕ) → old ≡ const_text ++ r1 → NoLabel e r1 → NoLine e from old
no_line_label Bad from old r1 e n = λ h. n h.block.label 32 _ h.high refl (label_part from old r1 h e)
no_line_label Memory from old r1 e n = tt

pub low_label : (from label : ℕ) (old r1 : List ℕ) → label < from → old ≡ const_text ++ r1 → label_in r1 ≡ label_as label → LineHere from old → ⊥
low_label from label old r1 l e g h = omega (arith, h.low, label_is from label old r1 h e g)

pub no_opening : (e : LineEnd) (from label : ℕ) (old r1 r2 : List ℕ) → old ≡ const_text ++ r1 → label_in r1 ≡ label_as label → r1 ≡ decimal label ++ r2 → NoWord e opening_text r2 → NoLine e from old
no_opening Bad from label old r1 r2 e g f n = λ h. n _ (opening_part from label old r1 r2 h e g f)
no_opening Memory from label old r1 r2 e g f n = tt

pub no_line_body : (e : LineEnd) (from label : ℕ) (old r1 r2 r3 : List ℕ) → old ≡ const_text ++ r1 → label_in r1 ≡ label_as label → r1 ≡ decimal label ++ r2 → r2 ≡ opening_text ++ r3 → NoBody e 1 0 r3 → NoLine e from old
no_line_body Bad from label old r1 r2 r3 e g f k n = λ h.
    n (record { body = h.block.body; rest = closing_text ++ h.rest; is = body_part from label old r1 r2 r3 h e g f k; good = h.good; deep = omega (arith, h.deep); room = omega (arith, h.room) })
no_line_body Memory from label old r1 r2 r3 e g f k n = tt

pub no_closing : (e : LineEnd) (from label : ℕ) (old r1 r2 r3 r4 : List ℕ) (before after : List Step) → old ≡ const_text ++ r1 → label_in r1 ≡ label_as label → r1 ≡ decimal label ++ r2 → r2 ≡ opening_text ++ r3 → BodyRead 1 0 r3 before r4 after → NoWord e closing_text r4 → NoLine e from old
no_closing Bad from label old r1 r2 r3 r4 before after e g f k m n = λ h. n h.rest (sym (closing_part from label old r1 r2 r3 r4 before after h e g f k m).1)
no_closing Memory from label old r1 r2 r3 r4 before after e g f k m n = tt

-- the parts of a line that was read
pub line_read : (label n : ℕ) (old r1 r2 r3 r4 new starts skipped after : List ℕ) (ss more : List Step) → old ≡ const_text ++ r1 → r1 ≡ decimal label ++ r2 → r2 ≡ opening_text ++ r3 → r4 ≡ closing_text ++ new → label < 65536 → length skipped ≡ label → n ≡ length ss → after ≡ skipped ++ n ∷ [] → ((ss : List Step) (bs : List Labelled) → IsLaid starts ss bs → IsLaid skipped ss bs) → BodyRead 1 0 r3 ss r4 more → LineRead old starts ss new after more
line_read label n old r1 r2 r3 r4 new starts skipped after ss more e1 e2 e3 e5 h s k a g m =
    let after_is : after ≡ skipped ++ length ss ∷ [] = a ∙ ap (λ (x : ℕ). skipped ++ x ∷ []) k in
    record {
      block = record { label = label; body = m.body };
      is = e1 ∙ ap (λ (t : List ℕ). const_text ++ t) (e2 ∙ ap (λ (t : List ℕ). decimal label ++ t) (e3 ∙ ap (λ (t : List ℕ). opening_text ++ t) (m.is ∙ ap (λ (t : List ℕ). body_text 0 m.body ++ t) e5)))
          ∙ sym (line_rest (record { label = label; body = m.body }) new);
      high = h;
      room = omega (arith, m.room);
      deep = omega (arith, m.deep);
      good = m.good;
      next = omega (arith, ap length after_is, length-append skipped (length ss ∷ []));
      laid = λ bs i small.
          subst (λ (x : ℕ). IsLaid after more (bs ++ record { label = x; body = m.body } ∷ [])) s
          (subst (λ (xs : List ℕ). IsLaid xs more (bs ++ record { label = length skipped; body = m.body } ∷ [])) (sym after_is)
          (subst (λ (xs : List Step). IsLaid (skipped ++ length ss ∷ []) xs (bs ++ record { label = length skipped; body = m.body } ∷ [])) (sym m.steps)
          (laid_block skipped ss bs m.body (g ss bs i) small)));
    }

-- two lines at one place are the same
pub line_unique : (a b : Labelled) (r q : List ℕ) → a.label < 65536 → b.label < 65536 → EachStep IsPageStep a.body → EachStep IsPageStep b.body → fills a.body ≤ 65534 → fills b.body ≤ 65534 → line_text a ++ r ≡ line_text b ++ q → (a ≡ b) × (r ≡ q)
line_unique a b r q h k g f ra rb e =
    let rest_a : List ℕ = opening_text ++ (body_text 0 a.body ++ (closing_text ++ r)) in
    let rest_b : List ℕ = opening_text ++ (body_text 0 b.body ++ (closing_text ++ q)) in
    let behind : decimal a.label ++ rest_a ≡ decimal b.label ++ rest_b = append_cancel_left const_text (decimal a.label ++ rest_a) (decimal b.label ++ rest_b) (sym (line_rest a r) ∙ e ∙ line_rest b q) in
    let labels : a.label ≡ b.label = ap label_or (sym (label_back a.label 32 _ h refl) ∙ ap label_in behind ∙ label_back b.label 32 _ k refl) in
    let after : rest_a ≡ rest_b = append_cancel_left (decimal b.label) rest_a rest_b (ap (λ (n : ℕ). decimal n ++ rest_a) (sym labels) ∙ behind) in
    let bodies = unique 0 a.body b.body (closing_text ++ r) (closing_text ++ q) g f (omega arith) (omega arith) (append_cancel_left opening_text _ _ after) in
    (ap (λ (n : ℕ). record { label = n; body = a.body }) labels ∙ ap (λ (x : Body). record { label = b.label; body = x }) bodies.0, append_cancel_left closing_text r q bodies.1)
