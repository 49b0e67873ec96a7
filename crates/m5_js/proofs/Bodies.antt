-- A body that is spelled at the front of a text is the only one there.
use Rattle.std.proofs.Common.{◌≡◌, ℕ, ◌+◌, ◌<◌, ◌≤◌, ◌∙◌, List, [], ◌++◌, refl, ap, sym, arith, append_assoc, codes}
use Rattle.std.proofs.lemmas.List.{append_cancel_left}
use Rattle.m5_machine.specs.declared.step.Instruction.{Instruction}
use Rattle.m5_machine.specs.declared.step.Step.{Step}
use Rattle.m5_machine.specs.declared.step.Step.TheVariants as steps
use Rattle.m5_machine.specs.Body.{Body, Then, If, Go, Ask, Send, Done, fills, depth}
use Rattle.m5_machine.specs.Linked.{erased}
use Rattle.m5_machine.specs.code.Flattened.{EachStep}
use Rattle.m5_js.specs.declared.input.LineEnd.{LineEnd}
use Rattle.m5_js.specs.declared.input.LineEnd.TheVariants.{Bad, Memory}
use Rattle.m5_js.specs.Spelling.{statement_text, branch_text, body_text}
use Rattle.m5_js.specs.code.Bodies.{step_text, RoomFor, StepRead, NoStep, NoWord, BodyHere, BodyRead, NoBody}
use Rattle.m5_js.specs.Page.{IsPageStep}
use Rattle.m5_js.proofs.Steps.{step_unique}

abbrev pub else_text : List ℕ
else_text = codes "} else { "

abbrev pub end_text : List ℕ
end_text = codes "} "

-- the first step of a body, and what is spelled behind it
abbrev pub head_step : Body → Step
head_step (Then i b) = steps.Fill i
head_step (If s a b) = steps.If s 0
head_step (Go c v) = steps.Go c v
head_step (Ask p a n) = steps.Ask p a n
head_step (Send w c v) = steps.Send w c v
head_step Done = steps.Done

abbrev pub tail_text : ℕ → Body → List ℕ
tail_text n (Then i b) = body_text (n + 1) b
tail_text n (If s a b) = body_text n a ++ (else_text ++ (body_text n b ++ end_text))
tail_text n (Go c v) = []
tail_text n (Ask p a k) = []
tail_text n (Send w c v) = []
tail_text n Done = []

first_step : (n : ℕ) (b : Body) (r : List ℕ) → body_text n b ++ r ≡ step_text n (head_step b) ++ (tail_text n b ++ r)
unfolding body_text
first_step n (Then i b) r = append_assoc (statement_text n i) (body_text (n + 1) b) r
first_step n (If s a b) r = append_assoc (branch_text s) (body_text n a ++ (else_text ++ (body_text n b ++ end_text))) r
first_step n (Go c v) r = refl
first_step n (Ask p a k) r = refl
first_step n (Send w c v) r = refl
first_step n Done r = refl

pub branches_rest : (n : ℕ) (a b : Body) (r : List ℕ) → (body_text n a ++ (else_text ++ (body_text n b ++ end_text))) ++ r ≡ body_text n a ++ (else_text ++ (body_text n b ++ (end_text ++ r)))
branches_rest n a b r =
    append_assoc (body_text n a) (else_text ++ (body_text n b ++ end_text)) r
    ∙ ap (λ (t : List ℕ). body_text n a ++ (else_text ++ t)) (append_assoc (body_text n b) end_text r)

head_good : (b : Body) → EachStep IsPageStep b → IsPageStep (head_step b)
unfolding EachStep
head_good (Then i b) g = g.0
head_good (If s a b) g = g.0
head_good (Go c v) g = g
head_good (Ask p a n) g = g
head_good (Send w c v) g = g
head_good Done g = g

head_room : (n : ℕ) (b : Body) → n + fills b ≤ 65534 → RoomFor n (head_step b)
unfolding fills
head_room n (Then i b) h = omega arith
head_room n (If s a b) h = tt
head_room n (Go c v) h = tt
head_room n (Ask p a k) h = tt
head_room n (Send w c v) h = tt
head_room n Done h = tt

head_erased : (b : Body) → erased (head_step b) ≡ head_step b
head_erased (Then i b) = refl
head_erased (If s a b) = refl
head_erased (Go c v) = refl
head_erased (Ask p a n) = refl
head_erased (Send w c v) = refl
head_erased Done = refl

head_read : (n : ℕ) (b : Body) (r old : List ℕ) → old ≡ body_text n b ++ r → EachStep IsPageStep b → n + fills b ≤ 65534 → StepRead n old (head_step b) (tail_text n b ++ r)
head_read n b r old e g h = record { is = e ∙ first_step n b r; good = head_good b g; room = head_room n b h }

same_head : (n : ℕ) (a b : Body) (r q : List ℕ) → EachStep IsPageStep a → EachStep IsPageStep b → n + fills a ≤ 65534 → n + fills b ≤ 65534 → body_text n a ++ r ≡ body_text n b ++ q → (head_step a ≡ head_step b) × (tail_text n a ++ r ≡ tail_text n b ++ q)
same_head n a b r q g h ra rb e =
    let u = step_unique n (body_text n a ++ r) (tail_text n a ++ r) (tail_text n b ++ q) (head_step a) (head_step b) (head_read n a r _ refl g ra) (head_read n b q _ e h rb) in
    (sym (head_erased a) ∙ u.0 ∙ head_erased b, u.1)

-- two bodies at one place are the same
pub unique : (n : ℕ) (a b : Body) (r q : List ℕ) → EachStep IsPageStep a → EachStep IsPageStep b → n + fills a ≤ 65534 → n + fills b ≤ 65534 → body_text n a ++ r ≡ body_text n b ++ q → (a ≡ b) × (r ≡ q)
unfolding EachStep fills
unique n0 (Then i a) (Then j b) r q g h ra rb e =
    let both = same_head n0 (Then i a) (Then j b) r q g h ra rb e in
    let same : steps.Fill i ≡ steps.Fill j = both.0 in
    let u = unique (n0 + 1) a b r q g.1 h.1 (omega arith) (omega arith) both.1 in
    let this : i ≡ j = cc in
    (ap (λ (f : Instruction). Then f a) this ∙ ap (Then j) u.0, u.1)
unique n0 (Then i a) (If t b1 b2) r q g h ra rb e = absurd (let no : head_step (Then i a) ≡ head_step (If t b1 b2) = (same_head n0 (Then i a) (If t b1 b2) r q g h ra rb e).0 in cc)
unique n0 (Then i a) (Go d w) r q g h ra rb e = absurd (let no : head_step (Then i a) ≡ head_step (Go d w) = (same_head n0 (Then i a) (Go d w) r q g h ra rb e).0 in cc)
unique n0 (Then i a) (Ask k y m) r q g h ra rb e = absurd (let no : head_step (Then i a) ≡ head_step (Ask k y m) = (same_head n0 (Then i a) (Ask k y m) r q g h ra rb e).0 in cc)
unique n0 (Then i a) (Send o d w) r q g h ra rb e = absurd (let no : head_step (Then i a) ≡ head_step (Send o d w) = (same_head n0 (Then i a) (Send o d w) r q g h ra rb e).0 in cc)
unique n0 (Then i a) Done r q g h ra rb e = absurd (let no : head_step (Then i a) ≡ head_step Done = (same_head n0 (Then i a) Done r q g h ra rb e).0 in cc)
unique n0 (If s a1 a2) (Then j b) r q g h ra rb e = absurd (let no : head_step (If s a1 a2) ≡ head_step (Then j b) = (same_head n0 (If s a1 a2) (Then j b) r q g h ra rb e).0 in cc)
unique n0 (If s a1 a2) (If t b1 b2) r q g h ra rb e =
    let both = same_head n0 (If s a1 a2) (If t b1 b2) r q g h ra rb e in
    let same : steps.If s 0 ≡ steps.If t 0 = both.0 in
    let this : s ≡ t = cc in
    let moved = sym (branches_rest n0 a1 a2 r) ∙ both.1 ∙ branches_rest n0 b1 b2 q in
    let u = unique n0 a1 b1 (else_text ++ (body_text n0 a2 ++ (end_text ++ r))) (else_text ++ (body_text n0 b2 ++ (end_text ++ q))) g.1 h.1 (omega arith) (omega arith) moved in
    let v = unique n0 a2 b2 (end_text ++ r) (end_text ++ q) g.2 h.2 (omega arith) (omega arith) (append_cancel_left else_text _ _ u.1) in
    (ap (λ (n : ℕ). If n a1 a2) this ∙ ap (λ (x : Body). If t x a2) u.0 ∙ ap (If t b1) v.0, append_cancel_left end_text r q v.1)
unique n0 (If s a1 a2) (Go d w) r q g h ra rb e = absurd (let no : head_step (If s a1 a2) ≡ head_step (Go d w) = (same_head n0 (If s a1 a2) (Go d w) r q g h ra rb e).0 in cc)
unique n0 (If s a1 a2) (Ask k y m) r q g h ra rb e = absurd (let no : head_step (If s a1 a2) ≡ head_step (Ask k y m) = (same_head n0 (If s a1 a2) (Ask k y m) r q g h ra rb e).0 in cc)
unique n0 (If s a1 a2) (Send o d w) r q g h ra rb e = absurd (let no : head_step (If s a1 a2) ≡ head_step (Send o d w) = (same_head n0 (If s a1 a2) (Send o d w) r q g h ra rb e).0 in cc)
unique n0 (If s a1 a2) Done r q g h ra rb e = absurd (let no : head_step (If s a1 a2) ≡ head_step Done = (same_head n0 (If s a1 a2) Done r q g h ra rb e).0 in cc)
unique n0 (Go c v) (Then j b) r q g h ra rb e = absurd (let no : head_step (Go c v) ≡ head_step (Then j b) = (same_head n0 (Go c v) (Then j b) r q g h ra rb e).0 in cc)
unique n0 (Go c v) (If t b1 b2) r q g h ra rb e = absurd (let no : head_step (Go c v) ≡ head_step (If t b1 b2) = (same_head n0 (Go c v) (If t b1 b2) r q g h ra rb e).0 in cc)
unique n0 (Go c v) (Go d w) r q g h ra rb e =
    let both = same_head n0 (Go c v) (Go d w) r q g h ra rb e in
    let same : steps.Go c v ≡ steps.Go d w = both.0 in
    ((let one : c ≡ d = cc in let two : v ≡ w = cc in ap (λ (z : ℕ). Go z v) one ∙ ap (Go d) two), both.1)
unique n0 (Go c v) (Ask k y m) r q g h ra rb e = absurd (let no : head_step (Go c v) ≡ head_step (Ask k y m) = (same_head n0 (Go c v) (Ask k y m) r q g h ra rb e).0 in cc)
unique n0 (Go c v) (Send o d w) r q g h ra rb e = absurd (let no : head_step (Go c v) ≡ head_step (Send o d w) = (same_head n0 (Go c v) (Send o d w) r q g h ra rb e).0 in cc)
unique n0 (Go c v) Done r q g h ra rb e = absurd (let no : head_step (Go c v) ≡ head_step Done = (same_head n0 (Go c v) Done r q g h ra rb e).0 in cc)
unique n0 (Ask p x n) (Then j b) r q g h ra rb e = absurd (let no : head_step (Ask p x n) ≡ head_step (Then j b) = (same_head n0 (Ask p x n) (Then j b) r q g h ra rb e).0 in cc)
unique n0 (Ask p x n) (If t b1 b2) r q g h ra rb e = absurd (let no : head_step (Ask p x n) ≡ head_step (If t b1 b2) = (same_head n0 (Ask p x n) (If t b1 b2) r q g h ra rb e).0 in cc)
unique n0 (Ask p x n) (Go d w) r q g h ra rb e = absurd (let no : head_step (Ask p x n) ≡ head_step (Go d w) = (same_head n0 (Ask p x n) (Go d w) r q g h ra rb e).0 in cc)
unique n0 (Ask p x n) (Ask k y m) r q g h ra rb e =
    let both = same_head n0 (Ask p x n) (Ask k y m) r q g h ra rb e in
    let same : steps.Ask p x n ≡ steps.Ask k y m = both.0 in
    ((let one : p ≡ k = cc in let two : x ≡ y = cc in let three : n ≡ m = cc in ap (λ (z : ℕ). Ask z x n) one ∙ ap (λ (z : ℕ). Ask k z n) two ∙ ap (Ask k y) three), both.1)
unique n0 (Ask p x n) (Send o d w) r q g h ra rb e = absurd (let no : head_step (Ask p x n) ≡ head_step (Send o d w) = (same_head n0 (Ask p x n) (Send o d w) r q g h ra rb e).0 in cc)
unique n0 (Ask p x n) Done r q g h ra rb e = absurd (let no : head_step (Ask p x n) ≡ head_step Done = (same_head n0 (Ask p x n) Done r q g h ra rb e).0 in cc)
unique n0 (Send u c v) (Then j b) r q g h ra rb e = absurd (let no : head_step (Send u c v) ≡ head_step (Then j b) = (same_head n0 (Send u c v) (Then j b) r q g h ra rb e).0 in cc)
unique n0 (Send u c v) (If t b1 b2) r q g h ra rb e = absurd (let no : head_step (Send u c v) ≡ head_step (If t b1 b2) = (same_head n0 (Send u c v) (If t b1 b2) r q g h ra rb e).0 in cc)
unique n0 (Send u c v) (Go d w) r q g h ra rb e = absurd (let no : head_step (Send u c v) ≡ head_step (Go d w) = (same_head n0 (Send u c v) (Go d w) r q g h ra rb e).0 in cc)
unique n0 (Send u c v) (Ask k y m) r q g h ra rb e = absurd (let no : head_step (Send u c v) ≡ head_step (Ask k y m) = (same_head n0 (Send u c v) (Ask k y m) r q g h ra rb e).0 in cc)
unique n0 (Send u c v) (Send o d w) r q g h ra rb e =
    let both = same_head n0 (Send u c v) (Send o d w) r q g h ra rb e in
    let same : steps.Send u c v ≡ steps.Send o d w = both.0 in
    ((let one : u ≡ o = cc in let two : c ≡ d = cc in let three : v ≡ w = cc in ap (λ (z : ℕ). Send z c v) one ∙ ap (λ (z : ℕ). Send o z v) two ∙ ap (Send o d) three), both.1)
unique n0 (Send u c v) Done r q g h ra rb e = absurd (let no : head_step (Send u c v) ≡ head_step Done = (same_head n0 (Send u c v) Done r q g h ra rb e).0 in cc)
unique n0 Done (Then j b) r q g h ra rb e = absurd (let no : head_step Done ≡ head_step (Then j b) = (same_head n0 Done (Then j b) r q g h ra rb e).0 in cc)
unique n0 Done (If t b1 b2) r q g h ra rb e = absurd (let no : head_step Done ≡ head_step (If t b1 b2) = (same_head n0 Done (If t b1 b2) r q g h ra rb e).0 in cc)
unique n0 Done (Go d w) r q g h ra rb e = absurd (let no : head_step Done ≡ head_step (Go d w) = (same_head n0 Done (Go d w) r q g h ra rb e).0 in cc)
unique n0 Done (Ask k y m) r q g h ra rb e = absurd (let no : head_step Done ≡ head_step (Ask k y m) = (same_head n0 Done (Ask k y m) r q g h ra rb e).0 in cc)
unique n0 Done (Send o d w) r q g h ra rb e = absurd (let no : head_step Done ≡ head_step (Send o d w) = (same_head n0 Done (Send o d w) r q g h ra rb e).0 in cc)
unique n0 Done Done r q g h ra rb e =
    let both = same_head n0 Done Done r q g h ra rb e in
    let same : steps.Done ≡ steps.Done = both.0 in
    (refl, both.1)

-- the step that was read is the first of the body that is spelled here
head_is : (level n : ℕ) (old rest : List ℕ) (s : Step) (h : BodyHere level n old) → StepRead n old s rest → (head_step h.body ≡ erased s) × (tail_text n h.body ++ h.rest ≡ rest)
head_is level n old rest s h k =
    let u = step_unique n old (tail_text n h.body ++ h.rest) rest (head_step h.body) s (head_read n h.body h.rest old h.is h.good h.room) k in
    (sym (head_erased h.body) ∙ u.0, u.1)

here_then : (b : Body) (i : Instruction) (n : ℕ) (r rest : List ℕ) (level : ℕ) → EachStep IsPageStep b → depth b + level ≤ 1001 → n + fills b ≤ 65534 → head_step b ≡ steps.Fill i → tail_text n b ++ r ≡ rest → BodyHere level (n + 1) rest
unfolding EachStep depth fills
here_then (Then j b) i n0 r rest level g d m e t = record { body = b; rest = r; is = sym t; good = g.1; deep = d; room = omega arith }
here_then (If k a b) i n0 r rest level g d m e t = absurd (let no : head_step (If k a b) ≡ steps.Fill i = e in cc)
here_then (Go c v) i n0 r rest level g d m e t = absurd (let no : head_step (Go c v) ≡ steps.Fill i = e in cc)
here_then (Ask p x k) i n0 r rest level g d m e t = absurd (let no : head_step (Ask p x k) ≡ steps.Fill i = e in cc)
here_then (Send w c v) i n0 r rest level g d m e t = absurd (let no : head_step (Send w c v) ≡ steps.Fill i = e in cc)
here_then Done i n0 r rest level g d m e t = absurd (let no : head_step Done ≡ steps.Fill i = e in cc)

-- behind an instruction the same body goes on
pub here_fill : (level n : ℕ) (old rest : List ℕ) (i : Instruction) → StepRead n old (steps.Fill i) rest → BodyHere level n old → BodyHere level (n + 1) rest
here_fill level n old rest i k h =
    let p = head_is level n old rest (steps.Fill i) h k in
    here_then h.body i n h.rest rest level h.good h.deep h.room p.0 p.1

-- the two bodies behind an `if`
pub record BranchHere (level n : ℕ) (bytes : List ℕ) : Type 0 where
  pub first : Body
  pub second : Body
  pub rest : List ℕ
  pub is : bytes ≡ body_text n first ++ (else_text ++ (body_text n second ++ (end_text ++ rest)))
  pub first_good : EachStep IsPageStep first
  pub second_good : EachStep IsPageStep second
  pub first_deep : depth first + (level + 1) ≤ 1001
  pub second_deep : depth second + (level + 1) ≤ 1001
  pub first_room : n + fills first ≤ 65534
  pub second_room : n + fills second ≤ 65534

here_branch : (b : Body) (s n : ℕ) (r rest : List ℕ) (level : ℕ) → EachStep IsPageStep b → depth b + level ≤ 1001 → n + fills b ≤ 65534 → head_step b ≡ steps.If s 0 → tail_text n b ++ r ≡ rest → BranchHere level n rest
unfolding EachStep depth fills
here_branch (Then j b) s n0 r rest level g d m e u = absurd (let no : head_step (Then j b) ≡ steps.If s 0 = e in cc)
here_branch (If t a b) s n0 r rest level g d m e u = record { first = a; second = b; rest = r; is = sym u ∙ branches_rest n0 a b r; first_good = g.1; second_good = g.2; first_deep = omega arith; second_deep = omega arith; first_room = omega arith; second_room = omega arith }
here_branch (Go c v) s n0 r rest level g d m e u = absurd (let no : head_step (Go c v) ≡ steps.If s 0 = e in cc)
here_branch (Ask p x k) s n0 r rest level g d m e u = absurd (let no : head_step (Ask p x k) ≡ steps.If s 0 = e in cc)
here_branch (Send w c v) s n0 r rest level g d m e u = absurd (let no : head_step (Send w c v) ≡ steps.If s 0 = e in cc)
here_branch Done s n0 r rest level g d m e u = absurd (let no : head_step Done ≡ steps.If s 0 = e in cc)

pub here_if : (level n : ℕ) (old rest : List ℕ) (s place : ℕ) → StepRead n old (steps.If s place) rest → BodyHere level n old → BranchHere level n rest
here_if level n old rest s place k h =
    let p = head_is level n old rest (steps.If s place) h k in
    here_branch h.body s n h.rest rest level h.good h.deep h.room p.0 p.1

some_depth : (b : Body) → 0 < depth b
unfolding depth
some_depth (Then i b) = some_depth b
some_depth (If s a b) = omega arith
some_depth (Go c v) = omega arith
some_depth (Ask p a n) = omega arith
some_depth (Send w c v) = omega arith
some_depth Done = omega arith

pub too_deep : (level n : ℕ) (old rest : List ℕ) (s place : ℕ) → 1000 ≤ level → StepRead n old (steps.If s place) rest → BodyHere level n old → ⊥
too_deep level n old rest s place l k h = let b = here_if level n old rest s place k h in omega (arith, some_depth b.first, b.first_deep)

pub here_first : (level n : ℕ) (rest : List ℕ) → BranchHere level n rest → BodyHere (level + 1) n rest
here_first level n rest b = record { body = b.first; rest = else_text ++ (body_text n b.second ++ (end_text ++ b.rest)); is = b.is; good = b.first_good; deep = b.first_deep; room = b.first_room }

-- what follows the first body that was read, and then the second
pub behind_first : (level n : ℕ) (rest mid : List ℕ) (before after : List Step) (b : BranchHere level n rest) → BodyRead (level + 1) n rest before mid after → mid ≡ else_text ++ (body_text n b.second ++ (end_text ++ b.rest))
behind_first level n rest mid before after b m = sym (unique n b.first m.body (else_text ++ (body_text n b.second ++ (end_text ++ b.rest))) mid b.first_good m.good b.first_room m.room (sym b.is ∙ m.is)).1

pub here_second : (level n : ℕ) (rest mid next : List ℕ) (before after : List Step) (b : BranchHere level n rest) → BodyRead (level + 1) n rest before mid after → mid ≡ else_text ++ next → next ≡ body_text n b.second ++ (end_text ++ b.rest)
here_second level n rest mid next before after b m e = append_cancel_left else_text next (body_text n b.second ++ (end_text ++ b.rest)) (sym e ∙ behind_first level n rest mid before after b m)

pub second_body : (level n : ℕ) (rest next : List ℕ) (b : BranchHere level n rest) → next ≡ body_text n b.second ++ (end_text ++ b.rest) → BodyHere (level + 1) n next
second_body level n rest next b e = record { body = b.second; rest = end_text ++ b.rest; is = e; good = b.second_good; deep = b.second_deep; room = b.second_room }

pub behind_second : (level n : ℕ) (rest next last : List ℕ) (before after : List Step) (b : BranchHere level n rest) → next ≡ body_text n b.second ++ (end_text ++ b.rest) → BodyRead (level + 1) n next before last after → last ≡ end_text ++ b.rest
behind_second level n rest next last before after b e m = sym (unique n b.second m.body (end_text ++ b.rest) last b.second_good m.good b.second_room m.room (sym e ∙ m.is)).1

-- where no step is, no body is
pub no_step_body : (e : LineEnd) (level from n : ℕ) (old rest : List ℕ) → (BodyHere level from old → BodyHere level n rest) → NoStep e n rest → NoBody e level from old
no_step_body Bad level from n old rest f k = λ h. let b = f h in k (head_step b.body) (tail_text n b.body ++ b.rest) (head_read n b.body b.rest rest b.is b.good b.room)
no_step_body Memory level from n old rest f k = tt

pub no_body : (e : LineEnd) (level next from n : ℕ) (old rest : List ℕ) → (BodyHere level from old → BodyHere next n rest) → NoBody e next n rest → NoBody e level from old
no_body Bad level next from n old rest f k = λ h. k (f h)
no_body Memory level next from n old rest f k = tt

pub no_word : (e : LineEnd) (level from : ℕ) (old mid word : List ℕ) → (BodyHere level from old → (r : List ℕ) × (mid ≡ word ++ r)) → NoWord e word mid → NoBody e level from old
no_word Bad level from old mid word f k = λ h. let p = f h in k p.0 p.1
no_word Memory level from old mid word f k = tt
