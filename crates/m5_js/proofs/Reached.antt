-- What is read of a body, step by step.
use Rattle.std.proofs.Common.{◌≡◌, ℕ, ◌+◌, ◌≤◌, ◌∙◌, List, [], ◌∷◌, ◌++◌, refl, ap, sym, arith, append_assoc}
use Rattle.m5_machine.specs.declared.step.Instruction.{Instruction}
use Rattle.m5_machine.specs.declared.step.Step.{Step}
use Rattle.m5_machine.specs.declared.step.Step.TheVariants as steps
use Rattle.m5_machine.specs.Body.{Body, Then, If, Go, Ask, Send, Done, fills, depth}
use Rattle.m5_machine.specs.code.Flattened.{flattened, EachStep}
use Rattle.m5_js.specs.Spelling.{statement_text, branch_text, body_text}
use Rattle.m5_js.specs.code.Bodies.{StepRead, BodyRead}
use Rattle.m5_js.proofs.Bodies.{else_text, end_text}

-- an instruction before the rest of the body
pub read_fill : (level n : ℕ) (old rest new : List ℕ) (before mid after : List Step) (i : Instruction) → StepRead n old (steps.Fill i) rest → mid ≡ before ++ steps.Fill i ∷ [] → BodyRead level (n + 1) rest mid new after → BodyRead level n old before new after
unfolding body_text flattened EachStep depth fills
read_fill level n old rest new before mid after i s e m = record {
  body = Then i m.body;
  is = s.is ∙ ap (λ (xs : List ℕ). statement_text n i ++ xs) m.is ∙ sym (append_assoc (statement_text n i) (body_text (n + 1) m.body) new);
  steps = m.steps ∙ ap (λ (ss : List Step). ss ++ flattened m.body) e ∙ append_assoc before (steps.Fill i ∷ []) (flattened m.body);
  good = (s.good, m.good);
  deep = m.deep;
  room = omega (arith, m.room);
}

-- an ending
pub read_go : (level n : ℕ) (old new : List ℕ) (before after : List Step) (c v : ℕ) → level ≤ 1000 → n ≤ 65534 → StepRead n old (steps.Go c v) new → after ≡ before ++ steps.Go c v ∷ [] → BodyRead level n old before new after
unfolding body_text flattened EachStep depth fills
read_go level n old new before after c v l m s e = record { body = Go c v; is = s.is; steps = e; good = s.good; deep = omega arith; room = omega arith }

pub read_ask : (level n : ℕ) (old new : List ℕ) (before after : List Step) (p a k : ℕ) → level ≤ 1000 → n ≤ 65534 → StepRead n old (steps.Ask p a k) new → after ≡ before ++ steps.Ask p a k ∷ [] → BodyRead level n old before new after
unfolding body_text flattened EachStep depth fills
read_ask level n old new before after p a k l m s e = record { body = Ask p a k; is = s.is; steps = e; good = s.good; deep = omega arith; room = omega arith }

pub read_send : (level n : ℕ) (old new : List ℕ) (before after : List Step) (w c v : ℕ) → level ≤ 1000 → n ≤ 65534 → StepRead n old (steps.Send w c v) new → after ≡ before ++ steps.Send w c v ∷ [] → BodyRead level n old before new after
unfolding body_text flattened EachStep depth fills
read_send level n old new before after w c v l m s e = record { body = Send w c v; is = s.is; steps = e; good = s.good; deep = omega arith; room = omega arith }

pub read_done : (level n : ℕ) (old new : List ℕ) (before after : List Step) → level ≤ 1000 → n ≤ 65534 → StepRead n old steps.Done new → after ≡ before ++ steps.Done ∷ [] → BodyRead level n old before new after
unfolding body_text flattened EachStep depth fills
read_done level n old new before after l m s e = record { body = Done; is = s.is; steps = e; good = s.good; deep = omega arith; room = omega arith }

if_is : (n s : ℕ) (a b : Body) (old r1 r2 r3 r4 new : List ℕ) → old ≡ branch_text s ++ r1 → r1 ≡ body_text n a ++ r2 → r2 ≡ else_text ++ r3 → r3 ≡ body_text n b ++ r4 → r4 ≡ end_text ++ new → old ≡ body_text n (If s a b) ++ new
unfolding body_text
if_is n s a b old r1 r2 r3 r4 new e1 e2 e3 e4 e5 =
    e1 ∙ ap (λ (t : List ℕ). branch_text s ++ t)
    (e2 ∙ ap (λ (t : List ℕ). body_text n a ++ t) (e3 ∙ ap (λ (t : List ℕ). else_text ++ t) (e4 ∙ ap (λ (t : List ℕ). body_text n b ++ t) e5 ∙ sym (append_assoc (body_text n b) end_text new)))
    ∙ sym (append_assoc (body_text n a) (else_text ++ (body_text n b ++ end_text)) new))
    ∙ sym (append_assoc (branch_text s) (body_text n a ++ (else_text ++ (body_text n b ++ end_text))) new)

-- an `if` before its two bodies
pub read_if : (level n : ℕ) (old r1 r2 r3 r4 new : List ℕ) (b0 b1 b2 after : List Step) (s place : ℕ) → StepRead n old (steps.If s place) r1 → b1 ≡ b0 ++ steps.If s 0 ∷ [] → BodyRead (level + 1) n r1 b1 r2 b2 → r2 ≡ else_text ++ r3 → BodyRead (level + 1) n r3 b2 r4 after → r4 ≡ end_text ++ new → BodyRead level n old b0 new after
unfolding body_text flattened EachStep depth fills
read_if level n old r1 r2 r3 r4 new b0 b1 b2 after s place k e f g h z = record {
  body = If s f.body h.body;
  is = if_is n s f.body h.body old r1 r2 r3 r4 new k.is f.is g h.is z;
  steps = h.steps ∙ ap (λ (ss : List Step). ss ++ flattened h.body) (f.steps ∙ ap (λ (ss : List Step). ss ++ flattened f.body) e ∙ append_assoc b0 (steps.If s 0 ∷ []) (flattened f.body))
      ∙ append_assoc b0 (steps.If s 0 ∷ flattened f.body) (flattened h.body);
  good = (record { page = refl; numbers = (k.good.numbers.0, omega arith) }, f.good, h.good);
  deep = omega (arith, f.deep, h.deep);
  room = omega (arith, f.room, h.room);
}
